mod Chains
mod Zeros
pub mod ReadyValues
pub mod WaitingSteps
pub mod Filled
pub mod Writers
pub mod StepValues
pub mod ReadValues
pub mod OneParts
pub mod PartCodes
pub mod Results
pub mod Folds
pub mod Stacks
pub mod Nodes
pub mod NoncircularTrees
