pub mod NeighbourLists
pub mod NeighbourSeen
pub mod SeenCells
pub mod NeighbourSteps
pub mod NeighbourTable
pub mod NeighbourCursor
pub mod NotesPlaces
