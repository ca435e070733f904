pub mod PageState
pub mod PageInside
pub mod NodesLeft
pub mod Places
pub mod Instances
