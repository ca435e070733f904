pub mod ExampleTree
pub mod Grown
pub mod Least
pub mod Counted
pub mod BuiltRows
pub mod ExampleRows
pub mod LeastTree
