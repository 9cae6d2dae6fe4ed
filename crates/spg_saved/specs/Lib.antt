pub mod Saved
pub mod Answers
