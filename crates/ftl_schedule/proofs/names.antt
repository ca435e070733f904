pub mod EachInTurn
pub mod NamedParts
