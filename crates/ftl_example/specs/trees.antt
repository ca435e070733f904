pub mod ExampleTree
pub mod Grown
pub mod WorkedExamples
pub mod CountedChoices
pub mod CountedLaws
pub mod WantsMeant
pub mod BuiltRows
pub mod LeastShown
