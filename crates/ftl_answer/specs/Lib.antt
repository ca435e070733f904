pub mod reading
pub mod refusals
pub mod answers
pub mod explanations
pub mod summary
pub mod headline
