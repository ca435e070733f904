pub mod OrderedReads
pub mod FirstFault
pub mod FaultLaws
