pub mod Records
pub mod Serving
pub mod Sound
pub mod Rounds
pub mod Made
pub mod Settling
pub mod Finished
pub mod Opening
