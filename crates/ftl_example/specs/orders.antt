pub mod PlainOrder
pub mod WorkedOrders
pub mod EarlyVisits
