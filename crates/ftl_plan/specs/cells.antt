pub mod NodeCells
