pub mod NestPair
pub mod FirstRefused
