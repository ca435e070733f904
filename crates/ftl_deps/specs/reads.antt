pub mod Meant
pub mod DepRows
pub mod Products
pub use Rattle.ftl_order.specs.dependencies.DepReads
pub use Rattle.ftl_order.specs.dependencies.Writers
