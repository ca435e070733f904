pub mod grammars
pub mod search
pub mod walks
