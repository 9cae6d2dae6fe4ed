pub mod Codec
pub mod Areas
pub mod Heights
pub mod PointClass
