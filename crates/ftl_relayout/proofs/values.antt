pub mod Writers
pub mod OneParts
pub mod Loading
pub mod PartRuns
pub mod StepValues
pub mod StepCosts
