pub mod BetweenPlaces
pub mod HostPlaces
