pub mod StepRules
pub mod SeenReads
pub mod KidCells
pub mod StepCells
pub mod CursorSteps
pub mod Taken
pub mod TableParts
