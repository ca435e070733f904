pub mod TreeRules
pub mod Relaid
pub mod Due
pub mod Marks
