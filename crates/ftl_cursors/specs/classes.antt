pub mod ClassSets
