pub mod Depth
pub mod Place
pub mod Reader
