pub mod TreeNets
pub mod Relayout
pub mod Readers
pub mod Edits
