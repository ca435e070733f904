pub mod Constants
pub mod Kept
