pub mod ReadBack
pub mod Standing
