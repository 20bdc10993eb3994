pub mod Crashed
pub mod Doing
pub mod Leaving
pub mod Steps
