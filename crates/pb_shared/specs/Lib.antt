pub mod Combined
pub mod Filling
pub mod Holding
pub mod Reads
pub mod Scanning
pub mod Tries
pub mod Passes
pub mod Kept
