pub mod Samples
pub mod Taken
pub mod Words
pub mod WorkedWords
