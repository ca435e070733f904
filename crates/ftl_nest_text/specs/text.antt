pub mod NestText
pub use Rattle.ftl_tokens.specs.writing.Written
pub use Rattle.ftl_schedule.specs.text.ScheduleText
