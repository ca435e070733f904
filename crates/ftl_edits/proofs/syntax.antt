pub mod EditPrefix
pub mod Went
pub mod OneAhead
pub mod Edits
pub mod Numbers
