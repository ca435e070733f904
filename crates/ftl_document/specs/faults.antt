pub mod Nodes
pub mod FirstFault
pub mod DocumentTree
pub mod WrittenOf
pub mod Within
pub mod DocumentLaws
pub mod Worked
