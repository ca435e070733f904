pub mod ItemSteps
pub mod SparseSteps
pub mod VisitedItems
