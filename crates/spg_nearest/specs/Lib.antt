pub mod Finds
