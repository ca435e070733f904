pub mod sections
pub mod workers
pub mod commands
