pub mod Remains
pub mod Session
pub mod Saved
pub mod Outcomes
pub mod Lanes
pub mod Posts
