pub mod Owned
pub mod OnContext
