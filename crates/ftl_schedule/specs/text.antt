pub mod ScheduleText
pub use Rattle.ftl_tokens.specs.writing.Written
