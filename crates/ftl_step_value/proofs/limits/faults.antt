pub mod Steps
pub mod Faults
pub mod Cells
pub mod KidSums
pub mod PartReads
pub mod InstanceSums
pub mod NoFault
pub mod Bounds
mod NeverMemory
