pub mod ItemSteps
pub mod NodeRanges
pub mod Places
pub mod StepLaws
pub mod VisitSteps
pub mod NodeParts
pub mod SparsePlaces
pub mod RuleTurns
