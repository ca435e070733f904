pub mod Grown
pub mod Entering
pub mod Targets
pub mod Accepting
pub mod AutomaticLimits
