pub mod CellPlaces
