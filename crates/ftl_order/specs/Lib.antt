pub mod orders
pub mod worked
pub mod dependencies
pub mod steps
pub mod faults
pub mod automatic
