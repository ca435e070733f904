pub mod queue
pub mod keys
pub mod laws
pub mod values
pub mod readers
pub mod relayouter
pub mod relaid
