pub mod NeighbourParts
pub mod NeighbourCells
pub mod Worked
