pub mod Least
pub mod Matrix
pub mod Words
