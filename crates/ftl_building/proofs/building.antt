pub mod MoreFields
pub mod Kept
pub mod Closing
pub mod Within
