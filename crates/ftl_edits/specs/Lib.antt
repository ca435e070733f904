pub mod syntax
pub mod meaning
pub mod reading
