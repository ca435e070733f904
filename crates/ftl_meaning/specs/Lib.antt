pub mod formulas
pub mod expression_reads
pub mod faults
pub mod fault_order
pub mod grammars
pub mod lawful
pub mod names
