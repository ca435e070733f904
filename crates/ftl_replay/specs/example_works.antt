pub mod Chain
pub mod Eight
pub mod Ladder
pub mod Lent
pub mod Star
pub mod Words
