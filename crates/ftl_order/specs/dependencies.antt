pub mod DepReads
pub mod Writers
pub mod DepLaws
pub mod Worked
