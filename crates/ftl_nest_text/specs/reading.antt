pub mod NestLimits
pub mod NestReading
pub mod WorkedLimits
