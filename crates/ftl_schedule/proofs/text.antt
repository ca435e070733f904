pub mod Dots
pub mod Fronts
pub mod SpelledSchedule
