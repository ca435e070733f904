pub mod PlaceLemmas
pub mod SectionLemmas
