pub mod FaultsAlong
pub mod AttributeKinds
pub mod OneWriter
pub mod FirstWriters
pub mod RuleCount
pub mod AcceptedLaws
pub mod NeverMemory
