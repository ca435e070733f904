mod Cells
mod OfKinds
mod Ordered
mod Taken
mod Pushed
