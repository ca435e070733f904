pub mod Nested
pub mod Known
