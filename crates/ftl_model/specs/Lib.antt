pub mod lists
pub mod layout
