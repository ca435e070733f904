pub mod Meaning
pub mod GrammarOf
pub mod Alike
pub mod Worked
