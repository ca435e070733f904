pub mod Fits
pub mod FoldLaws
pub mod Kids
pub mod Numbering
pub mod SameTrees
pub mod Standing
pub mod ValueRanges
