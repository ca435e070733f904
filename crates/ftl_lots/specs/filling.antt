pub mod Blocks
pub mod Filled
pub mod Spans
