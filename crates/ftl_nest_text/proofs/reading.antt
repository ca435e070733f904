pub mod NestCounted
pub mod NestSizes
pub mod NestShapes
pub mod NestReadFrom
pub mod NestKept
pub mod NestInOrder
pub mod NestRead
pub mod NestAnswerLemmas
