pub mod Quad
pub mod QuadLemmas
pub mod QuadLaws
