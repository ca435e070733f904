pub mod Equations
pub mod TokenLemmas
pub mod Levels
pub mod SpelledExpressions
pub mod SpelledAttrs
pub mod SpelledGrammars
pub mod CanonicalTexts
