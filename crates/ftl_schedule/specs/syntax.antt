pub mod Trees
pub mod Spelling
pub mod Reading
pub mod Read
pub use Rattle.ftl_tokens.specs.reading.Place
