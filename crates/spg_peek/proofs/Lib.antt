pub mod Copied
pub mod Peeks
pub mod Firsts
pub mod Handing
