pub mod NestPairs
pub mod FoundNestPair
pub mod NestFaultPairs
