pub mod Bits
pub mod Counts
pub mod Lanes
pub mod Lowest
pub mod Rows
pub mod Walks
