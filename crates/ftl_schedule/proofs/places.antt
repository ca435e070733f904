pub mod EntryLists
pub mod Lookup
pub mod PlacingOf
pub mod Filling
