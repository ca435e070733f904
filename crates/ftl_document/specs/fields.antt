pub mod OwnFields
pub mod Placed
pub mod SlotLaws
