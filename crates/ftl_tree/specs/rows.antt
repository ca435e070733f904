pub mod Rows
pub mod KidRuns
pub mod ClassRows
