pub mod Each
pub mod Elements
pub mod Listed
pub mod Places
pub mod Rising
pub mod Sorted
pub mod Weights
pub mod FirstAlong
