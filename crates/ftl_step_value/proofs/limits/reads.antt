pub mod RuleReads
pub mod InstanceReads
pub mod Entries
