pub mod orders
pub mod pairs
pub mod examples
