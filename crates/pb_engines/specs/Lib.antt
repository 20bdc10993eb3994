pub mod AnyEngine
pub mod Unopened
