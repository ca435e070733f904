pub mod Numerals
pub mod Solvings
