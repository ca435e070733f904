pub mod Runs
pub mod VisitRows
