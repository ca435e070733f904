pub mod NestRules
pub mod NestFaults
pub mod OuterLimits
pub mod NothingNested
pub mod MemoryAlone
pub mod FlatAccepted
pub mod NestKnown
pub mod PlainAccepted
