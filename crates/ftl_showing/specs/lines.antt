pub mod Lines
pub mod Details
pub mod Whys
