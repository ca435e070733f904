pub mod Tables
pub mod Found
pub mod OwnerInfos
pub use Rattle.ftl_grammar.specs.syntax.Trees
