pub mod Rows
pub mod LargestList
pub mod Turns
pub mod Staying
