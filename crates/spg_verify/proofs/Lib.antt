pub mod Counting
pub mod Holding
pub mod Coming
pub mod Apart
pub mod Versions
