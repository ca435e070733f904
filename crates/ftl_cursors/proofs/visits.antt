pub mod RangeLemmas
pub mod LeftLemmas
pub mod VisitLemmas
pub mod TargetLemmas
pub mod PlaceLemmas
pub mod ItemLemmas
pub mod PartLemmas
