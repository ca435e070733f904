pub mod Keys
pub mod KeysHere
pub mod KeyPlaces
