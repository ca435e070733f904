pub mod Positions
pub mod Slots
pub mod MissingRules
pub mod Kept
pub mod ReadNumbers
pub use Rattle.ftl_grammar.specs.syntax.Trees
