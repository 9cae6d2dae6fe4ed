pub mod Once
pub mod Falls
