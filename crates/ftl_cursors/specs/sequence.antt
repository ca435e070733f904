pub mod BlockPlaces
pub mod Moves
pub mod Places
pub mod SequenceRest
pub mod SparsePlaces
pub mod WorkedPlaces
