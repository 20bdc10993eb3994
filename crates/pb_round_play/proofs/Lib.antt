pub mod Answering
pub mod NextRecords
pub mod Planning
pub mod Queues
pub mod Rising
pub mod Rows
pub mod Serves
