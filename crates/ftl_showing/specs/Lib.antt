pub mod lines
pub mod formats
