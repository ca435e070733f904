pub mod syntax
pub mod text
pub mod names
pub mod reading
pub mod printing
