pub mod Fewer
pub mod Lone
