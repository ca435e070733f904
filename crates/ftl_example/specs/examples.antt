pub mod EarlySteps
pub mod HandMeant
pub mod Numbered
pub mod PlainSteps
pub mod ShownOrders
pub mod ShownSteps
