pub mod RuleCode
pub mod Compilable
pub mod Pieces
pub mod KeptCode
