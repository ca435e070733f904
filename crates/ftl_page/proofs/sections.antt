pub mod LineLength
pub mod LineLemmas
pub mod WordLemmas
pub mod StrayLemmas
pub mod BodyLemmas
pub mod SectionLemmas
pub mod PageLemmas
pub mod TextLemmas
pub mod AddLemmas
mod NeverMemory
