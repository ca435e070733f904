pub mod FormatLemmas
pub mod SameAnswers
