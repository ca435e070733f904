pub mod NameFaults
pub mod FlatRules
pub use Rattle.ftl_grammar.specs.syntax.Trees
