pub mod Parents
pub mod Sides
pub mod Steps
pub mod Worked
