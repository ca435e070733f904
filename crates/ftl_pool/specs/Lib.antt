pub mod Count
pub mod Effects
pub mod Pool
pub mod Flags
pub mod Deque
