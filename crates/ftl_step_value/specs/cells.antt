pub mod ReadCells
pub mod Seen
pub mod Cursor
