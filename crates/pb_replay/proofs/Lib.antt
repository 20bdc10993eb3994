mod Explaining
mod Making
pub mod OneReplay
mod Playings
mod Surveys
mod Writing
