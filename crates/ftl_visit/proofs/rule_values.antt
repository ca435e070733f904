pub mod Names
pub mod Numbered
pub mod Rules
pub mod Sums
pub mod Running
