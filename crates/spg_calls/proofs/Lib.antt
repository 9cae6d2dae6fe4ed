pub mod Journals
pub mod Calls
pub mod Doing
