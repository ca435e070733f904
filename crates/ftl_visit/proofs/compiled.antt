pub mod Translation
pub mod Counting
pub mod Laying
pub mod NewParts
pub mod SmallNumbers
pub mod SpelledCode
