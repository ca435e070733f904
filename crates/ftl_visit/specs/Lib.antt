pub mod rule_code
pub mod kept
pub mod compiled
pub mod visits
pub mod rule_values
pub mod step_reads
pub mod rule_tables
pub mod passes
