pub mod OwnerLaws
pub mod ParentLaws
pub mod SideLaws
pub mod StepLaws
pub mod WalkLaws
pub mod WorkedHosts
