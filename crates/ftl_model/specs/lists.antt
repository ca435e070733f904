pub mod Lists
pub mod FirstAlong
