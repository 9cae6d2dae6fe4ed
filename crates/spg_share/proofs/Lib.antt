pub mod Begun
pub mod Gathers
pub mod Kept
