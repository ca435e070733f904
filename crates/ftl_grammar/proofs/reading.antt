pub mod ReadLemmas
pub mod AnswerLemmas
pub mod PrintedLemmas
