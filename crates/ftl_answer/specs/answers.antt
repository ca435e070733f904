pub mod Stages
pub mod Answer
pub mod Texts
pub mod Plain
pub mod Summary
pub mod Explanations
pub mod Answers
pub mod Worked
