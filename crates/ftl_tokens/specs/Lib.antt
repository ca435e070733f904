pub mod scanner
pub mod reading
pub mod writing
