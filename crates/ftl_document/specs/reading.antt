pub mod ReadTree
pub mod ReadNodes
pub mod OfText
