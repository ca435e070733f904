pub mod NestJoined
pub mod OneNumber
pub mod NestNamedBack
pub mod NestNamedAgain
pub mod NestSpelledNames
pub mod NestSaidNames
pub mod NestReadAgain
pub mod NestWritable
