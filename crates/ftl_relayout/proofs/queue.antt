pub mod Depending
pub mod LaterRows
pub mod Queues
pub mod Running
pub mod Shifts
pub mod Trails
pub mod WaitingKeys
