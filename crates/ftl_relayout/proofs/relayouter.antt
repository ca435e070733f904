pub mod Marking
pub mod Sorting
pub mod Applying
pub mod Computing
pub mod Dues
