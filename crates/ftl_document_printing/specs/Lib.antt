pub mod text
pub mod trees
pub mod round_trip
