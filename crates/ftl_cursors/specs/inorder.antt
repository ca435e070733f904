pub mod InorderSteps
pub mod InorderVisits
pub mod KidSequences
pub mod WorkedSteps
