pub mod TestLaws
pub mod Sides
pub mod CheckedTests
pub mod HostLaws
pub mod OneNaming
pub mod NamedNests
pub mod EachSteps
