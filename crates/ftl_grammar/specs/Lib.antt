pub mod syntax
pub mod expressions
pub mod printing
pub mod reading
