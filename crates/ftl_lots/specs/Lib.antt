pub mod filling
pub mod table
pub mod words
pub mod work
