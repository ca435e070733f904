pub mod rows
pub mod trees
pub mod boxes
