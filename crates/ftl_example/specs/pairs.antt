pub mod FirstPair
pub mod PairMeant
pub mod FirstPlace
