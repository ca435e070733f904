pub mod places
pub mod tokens
pub mod marks
