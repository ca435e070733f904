pub mod Places
pub mod Attributes
pub mod Classes
pub mod Shown
pub mod Lossy
