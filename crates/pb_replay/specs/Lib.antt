pub mod AnswerText
pub mod Explained
pub mod Playing
pub mod Replay
pub mod Survey
