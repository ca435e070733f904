mod Words
mod Solved
mod Leading
mod Matching
pub mod Mapped
pub mod Changed
