pub mod Chain
pub mod WorkedRows
pub mod WorkedSchedules
pub mod WorkedSteps
