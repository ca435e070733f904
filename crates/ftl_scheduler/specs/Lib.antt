pub mod largest_sets
pub mod outcomes
pub mod finding
