pub mod Written
pub mod Spelling
pub mod Reading
pub mod Read
pub mod Worked
