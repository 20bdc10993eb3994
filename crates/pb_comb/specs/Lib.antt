pub mod OneSide
pub mod Serving
pub mod View
