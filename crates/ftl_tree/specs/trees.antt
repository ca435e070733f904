pub mod CheckedTree
pub mod FlatTree
pub mod Bare
pub mod OwnerRuns
pub mod OwnerPlaces
pub use Rattle.ftl_model.specs.layout.WithInput
