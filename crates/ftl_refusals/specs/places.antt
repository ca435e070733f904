pub mod Places
pub mod Sections
