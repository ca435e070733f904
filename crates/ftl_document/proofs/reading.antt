pub mod AnsweredFaults
pub mod ReadOnce
pub mod NodesRead
pub mod Widths
pub mod WrittenWithin
pub mod TextNodes
