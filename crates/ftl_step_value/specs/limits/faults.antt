pub mod PlanFaults
pub mod ReadBound
pub mod StageReads
