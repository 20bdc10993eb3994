pub mod Asked
pub mod Holding
pub mod Opening
pub mod Plays
pub mod Ready
pub mod Rule
pub mod Seats
pub mod View
