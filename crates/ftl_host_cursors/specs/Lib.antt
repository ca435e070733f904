pub mod HostSteps
pub mod HostPlaces
pub mod HostLaws
pub mod NestTables
pub mod WorkedPasses
