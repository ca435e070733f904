pub mod Tests
pub mod Along
pub mod Entries
pub mod Pairs
