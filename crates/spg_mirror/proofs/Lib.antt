pub mod Pairs
pub mod Runs
pub mod Beginning
pub mod Faults
pub mod Searching
