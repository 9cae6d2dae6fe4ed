pub mod Io
pub mod Summary
