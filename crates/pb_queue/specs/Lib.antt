pub mod Items
pub mod Recovery
pub mod Rounds
pub mod Serving
pub mod Standing
pub mod View
pub mod Waits
