pub mod ReadCounts
pub mod GrammarCounts
pub mod TokenCounts
