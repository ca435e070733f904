pub mod Inputs
pub mod Faults
pub mod Editable
pub mod EachInTurn
