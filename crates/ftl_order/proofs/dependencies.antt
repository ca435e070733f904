pub mod Places
pub mod ReadsThere
pub mod Writers
pub mod ClassRules
