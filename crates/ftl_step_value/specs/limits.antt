pub mod reads
pub mod faults
