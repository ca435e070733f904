pub mod stages
pub mod places
pub mod flat
pub mod check
