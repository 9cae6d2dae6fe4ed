mod Pages
mod Metas
mod Firsts
mod Changing
mod Matching
mod Steps
mod Calls
pub mod MetaOut
pub mod Classes
pub mod Apart
