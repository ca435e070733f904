pub mod cells
pub mod laws
pub mod phases
pub mod plans
