pub mod nests
pub mod shows
pub mod sizes
pub mod orders
pub mod trees
pub mod pairs
pub mod examples
