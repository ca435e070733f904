pub mod StepValue
pub mod Spread
pub mod SparseReads
pub mod Sites
pub mod RuleCopies
pub mod Picks
