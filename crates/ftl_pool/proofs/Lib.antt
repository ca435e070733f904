pub mod Balances
pub mod Plays
pub mod Putting
pub mod Deques
pub mod Taking
pub mod Thieves
