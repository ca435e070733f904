pub mod RuleTexts
pub mod Kept
pub mod Spoken
