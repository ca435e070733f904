pub mod Bare
pub mod ExampleLaws
pub mod Examples
pub mod Places
pub mod Shows
