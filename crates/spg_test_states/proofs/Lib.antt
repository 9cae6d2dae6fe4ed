pub mod Seeing
pub mod Working
pub mod LaterPages
pub mod Others
