pub mod Kd
pub mod Ties
pub mod KdLemmas
pub mod KdLaws
