pub mod Faultless
pub mod LawfulOf
pub mod Kept
pub mod AlikeLaws
pub mod Limits
pub mod TextOrder
