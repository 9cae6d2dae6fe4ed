pub mod Classes
pub mod Page
pub mod Meta
pub mod Image
pub mod Refusals
pub mod Saving
pub mod Verifying
