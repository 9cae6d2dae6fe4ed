pub mod Listing
pub mod Inside
pub mod Handled
pub mod Latch
pub mod Vacuums
pub mod Kept
