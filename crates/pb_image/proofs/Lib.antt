pub mod Answer
pub mod Begun
pub mod Kept
