pub mod Filling
pub mod Rounds
pub mod Totals
pub mod Members
