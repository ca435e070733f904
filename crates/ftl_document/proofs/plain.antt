pub mod Counts
pub mod Fronts
pub mod GapSteps
pub mod PlainScan
pub mod SmallLetters
pub mod TextDocuments
