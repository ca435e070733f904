pub mod names
pub mod lookup
pub mod declarations
pub mod grammars
