pub mod Good
pub mod Left
pub mod Parts
pub mod Steps
