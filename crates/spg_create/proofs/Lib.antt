pub mod Kept
pub mod Lengths
pub mod Making
pub mod OfClass
