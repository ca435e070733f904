pub mod AllPairs
pub mod NestTests
