pub mod InstanceRows
pub mod Numbers
