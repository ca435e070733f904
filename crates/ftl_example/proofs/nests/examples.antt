pub mod BySize
pub mod EarlySteps
pub mod EarlyTests
pub mod FaultPairs
pub mod Nearest
pub mod NumberedOrders
pub mod ShownOrdered
pub mod WrongOrders
