pub mod NestReads
pub mod Worked
