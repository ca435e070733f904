pub mod RuleAt
pub mod Accepted
pub mod AcceptedSchedule
