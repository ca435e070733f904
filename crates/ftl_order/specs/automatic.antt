pub mod Fitting
pub mod Automatic
pub mod AutomaticLaws
pub mod WorkedGrammars
