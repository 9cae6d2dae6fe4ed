pub mod Outcomes
pub mod Mirrored
