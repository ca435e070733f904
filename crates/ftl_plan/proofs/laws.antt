pub mod InRange
pub mod EndWords
pub mod Narrow
