pub mod Counted
pub mod ReadFrom
pub mod ReadComputed
pub mod ReadLimits
pub mod AnswerLemmas
