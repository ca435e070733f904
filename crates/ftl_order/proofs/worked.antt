pub mod ChainLaws
pub mod StackLawful
pub mod StackPairs
pub mod StackSchedules
pub mod WorkedOrders
pub mod WorkedPairs
pub mod WorkedReads
pub mod WorkedTables
