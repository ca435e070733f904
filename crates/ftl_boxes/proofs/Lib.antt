pub mod SampleLemmas
pub mod TextLengths
pub mod Made
