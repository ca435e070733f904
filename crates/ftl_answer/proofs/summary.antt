pub mod Weighted
pub mod Few
pub mod Nodes
pub mod Joined
