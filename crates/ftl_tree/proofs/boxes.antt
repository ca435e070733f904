pub mod Words
pub mod ShownAmong
pub mod Lines
pub mod PieceTables
pub mod Pairs
pub mod Spliced
