pub mod NestWords
pub mod NestPrefix
pub mod NestWent
pub mod NestAhead
pub mod NestSchedules
