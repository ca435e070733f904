pub mod Readers
pub mod Sites
pub mod Tables
