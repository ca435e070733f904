pub mod FixedTexts
pub mod ApartLemmas
pub mod WrittenScan
pub mod SpacedLemmas
