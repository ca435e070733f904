pub mod DocumentText
pub use Rattle.ftl_tokens.specs.writing.Written
