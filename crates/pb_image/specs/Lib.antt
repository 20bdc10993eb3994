pub mod Bytes
pub mod Fails
pub mod Sound
pub mod State
