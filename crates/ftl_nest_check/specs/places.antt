pub mod NestPlaced
pub mod Between
