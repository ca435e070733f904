pub mod PartValues
pub mod StepPlaces
pub mod Runs
