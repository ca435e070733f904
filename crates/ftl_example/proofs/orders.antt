pub mod Orders
pub mod Parted
pub mod Plain
pub mod EarlyVisits
pub mod ReaderFirst
