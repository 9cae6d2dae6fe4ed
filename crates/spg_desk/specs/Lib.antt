pub mod Full
pub mod Knowing
pub mod Told
pub mod Passes
pub mod Answers
pub mod Acting
pub mod Looks
pub mod Progress
