pub mod Meaning
pub mod Editable
pub mod Worked
