pub mod Fills
pub mod Joins
pub mod Spanned
