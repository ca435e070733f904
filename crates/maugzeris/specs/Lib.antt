pub mod refusals
pub mod rules
pub mod pages
pub mod building
