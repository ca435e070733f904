pub mod FirstPairs
pub mod PairFaults
pub mod InfoClass
pub mod FirstPlaces
pub mod PlacedReads
pub mod FoundPair
