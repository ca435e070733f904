pub mod TargetTests
pub mod FirstRules
pub mod Children
