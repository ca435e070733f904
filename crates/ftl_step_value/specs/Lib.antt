pub mod limits
pub mod cells
pub mod neighbours
pub mod value
pub mod forms
