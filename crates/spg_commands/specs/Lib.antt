pub mod Known
pub mod Acted
pub mod Outcomes
pub mod Noted
