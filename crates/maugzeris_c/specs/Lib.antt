pub mod context
pub mod kept
