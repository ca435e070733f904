pub mod NestExamples
pub mod EarlySteps
pub mod ShownOrders
