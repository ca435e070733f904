pub mod EarlyTests
pub mod EarlySteps
pub mod ReaderFirst
