pub mod Counts
pub mod Items
pub mod Rounds
pub mod Seats
pub mod Serving
pub mod Shape
