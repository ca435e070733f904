pub mod NestOrders
pub mod EarlyWithNests
