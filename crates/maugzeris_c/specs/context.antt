pub mod State
pub mod Inside
pub mod Outcome
pub mod Shown
pub mod Texts
pub mod Opening
pub mod Changing
pub mod Telling
