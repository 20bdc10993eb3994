pub mod Counts
pub mod SinkBytes
pub mod SinkState
pub mod SourceState
pub mod Standard
