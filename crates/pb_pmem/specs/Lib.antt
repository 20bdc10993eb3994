pub mod Contents
pub mod Count
pub mod Crash
pub mod Device
pub mod Lines
pub mod Operations
pub mod Past
