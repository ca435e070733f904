pub mod RegionTests
pub mod NestNamed
