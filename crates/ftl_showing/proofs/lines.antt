pub mod Depths
pub mod DetailLemmas
pub mod LineLemmas
pub mod WhyLemmas
