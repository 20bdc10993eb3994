pub mod Crew
pub mod Line
pub mod Lists
pub mod Run
pub mod Worker
