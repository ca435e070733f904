pub mod Starts
pub mod Meaning
pub mod Document
pub mod Fields
pub mod Steps
pub mod NodesLeft
