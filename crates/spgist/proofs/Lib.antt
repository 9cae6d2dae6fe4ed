pub mod Nears
pub mod Adopting
pub mod Renewing
