pub mod syntax
pub mod stages
pub mod places
pub mod text
pub mod check
pub mod names
pub mod reading
pub mod printing
