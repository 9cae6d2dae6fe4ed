pub mod Peeking
