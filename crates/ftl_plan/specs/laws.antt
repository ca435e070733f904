pub mod StageMeanings
pub mod StageWords
