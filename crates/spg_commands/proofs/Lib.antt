pub mod Keys
pub mod Rows
pub mod KnownConds
pub mod Acting
pub mod Commands
pub mod Next
