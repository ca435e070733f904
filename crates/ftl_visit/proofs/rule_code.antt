pub mod AnyReads
pub mod DepthLemmas
mod RowLemmas
pub mod RunLemmas
pub mod StandLemmas
pub mod ThereLemmas
