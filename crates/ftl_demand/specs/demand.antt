pub mod Words
pub mod Solved
pub mod Sites
pub mod Outcomes
pub mod Frames
