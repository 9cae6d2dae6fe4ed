pub mod Moves
pub mod Moving
pub mod Answers
pub mod Splits
pub mod Splitting
pub mod Nodes
pub mod Tables
pub mod Widening
