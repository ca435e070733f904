pub mod plain
pub mod syntax
pub mod faults
pub mod fields
pub mod nodes
pub mod pass
pub mod reading
