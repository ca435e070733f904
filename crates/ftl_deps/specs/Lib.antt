pub mod reads
pub mod parts
