pub mod ChainLaws
pub mod EightLaws
pub mod LadderLaws
pub mod LentLaws
pub mod StarLaws
