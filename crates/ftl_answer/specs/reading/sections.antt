pub mod Outcomes
pub mod RefusalOf
pub mod WrittenTrees
