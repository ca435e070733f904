pub mod hosts
pub mod pairs
