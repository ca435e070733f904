pub mod Alone
pub mod Dealing
pub mod Workers
