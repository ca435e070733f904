pub mod NodeRows
pub mod Tables
pub mod Steps
pub mod Walk
pub mod Found
pub mod Filled
pub use Rattle.ftl_tree.specs.rows.Rows
