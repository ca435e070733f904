pub mod ReadBack
pub mod WrittenOf
