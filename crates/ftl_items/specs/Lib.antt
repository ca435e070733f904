pub mod stage_items
pub mod numbers
pub mod solution
