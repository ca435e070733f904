pub mod SpreadLaws
pub mod StepRuleValues
pub mod Folding
pub mod PartRuns
pub mod RuleCopies
pub mod Operations
pub mod PickRuns
