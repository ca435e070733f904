pub mod Turns
pub mod Leaving
pub mod Marks
pub mod Ordering
