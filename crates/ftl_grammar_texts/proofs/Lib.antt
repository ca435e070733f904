pub mod PlainTexts
pub mod StackText
