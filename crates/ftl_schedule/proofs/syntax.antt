pub mod KindWords
pub mod SchedulePrefix
pub mod Went
pub mod OneAhead
pub mod Schedules
