pub mod Constraint
pub mod ConstraintRows
pub mod ConstraintLaws
pub mod Outcomes
