pub mod ConstraintTests
pub mod RowLists
pub mod NextPass
pub mod PassChains
pub mod StagePush
pub mod Left
