pub mod Joined
pub mod Known
pub mod NamedAgain
pub mod NamedBack
pub mod ReadAgain
pub mod SaidNames
pub mod SpelledNames
pub mod Writable
