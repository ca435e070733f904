pub mod NestWritten
pub mod NestReadBack
