pub mod View
pub mod Read
pub mod Printed
pub mod Readable
pub use Rattle.ftl_tokens.specs.reading.Depth
pub use Rattle.ftl_tokens.specs.reading.Place
