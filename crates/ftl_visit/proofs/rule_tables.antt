pub mod ByNumber
pub mod AttributeRuns
pub mod ClassRuns
