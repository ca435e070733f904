pub mod ShownTexts
pub mod RulesAnswers
pub mod Requests
pub mod Explained
