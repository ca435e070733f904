pub mod Bridge
mod FewPasses
mod HostNumbers
mod FoundItems
mod Idle
mod KeptKinds
mod StageClasses
mod Leaving
mod Marking
pub mod Driven
mod Formed
mod NextReads
mod Folded
mod FoldedKids
pub mod Inputs
pub mod RowsByStage
pub mod StagesOfPlans
pub mod InputRows
pub mod Shared
mod Turned
