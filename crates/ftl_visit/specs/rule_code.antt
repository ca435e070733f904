pub mod Code
pub mod Depth
pub mod Machine
pub mod Rows
