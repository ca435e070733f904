pub mod ExpressionTokens
pub mod GrammarTokens
pub mod TextOf
pub use Rattle.ftl_tokens.specs.writing.Written
pub use Rattle.ftl_tokens.specs.reading.Depth
