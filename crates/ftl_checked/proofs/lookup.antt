pub mod Places
pub mod Finding
pub mod Seconds
pub mod AttrInfos
pub mod Standing
