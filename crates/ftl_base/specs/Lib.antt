pub use Rattle.ftl_model.specs.layout.Values
pub mod Held
pub mod StackRows
pub mod Stacked
pub mod Truths
pub mod Widths
