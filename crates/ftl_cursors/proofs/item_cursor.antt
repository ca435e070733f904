pub mod TakenSteps
pub mod PassesAt
pub mod ItemVisits
pub mod SteplessItems
