pub mod MadeVisits
pub mod RunLemmas
