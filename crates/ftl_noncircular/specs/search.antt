pub mod Circles
pub mod Closing
pub mod Numbers
pub mod Pairs
pub mod RuleEdges
pub mod Searches
pub mod Shapes
pub mod Tables
