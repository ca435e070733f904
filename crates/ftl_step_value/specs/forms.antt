pub mod StepForms
pub mod Entries
pub mod RuleCodes
pub mod FoldForms
pub mod RuleForms
pub mod FoundForms
pub mod FoundFolds
pub mod RuleKids
