pub mod Ended
pub mod Hired
pub mod Judging
pub mod LineLemmas
pub mod Stepping
pub mod Sums
pub mod Together
