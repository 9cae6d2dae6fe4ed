pub mod Keeps
pub mod Creates
