pub mod Endings
pub mod Explaining
mod PlacedPairs
mod ReadBytes
