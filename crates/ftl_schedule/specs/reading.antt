pub mod Limits
pub mod Read
