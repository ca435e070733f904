pub mod Targets
pub mod Visits
