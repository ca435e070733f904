pub mod Changed
pub mod Reading
