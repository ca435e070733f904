pub mod Stages
pub mod PassLimits
