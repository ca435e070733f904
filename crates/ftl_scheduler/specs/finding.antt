pub mod Entered
pub mod Finds
