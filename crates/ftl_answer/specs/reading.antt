pub mod sections
pub mod requests
