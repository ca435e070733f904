pub mod NestTrees
pub mod NestSpelling
pub mod NestReading
pub mod NestRead
pub mod NestWorked
pub use Rattle.ftl_tokens.specs.reading.Place
pub use Rattle.ftl_schedule.specs.syntax.Trees
pub use Rattle.ftl_schedule.specs.syntax.Spelling
