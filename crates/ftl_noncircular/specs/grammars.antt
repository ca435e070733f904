pub mod Walks
pub mod Noncircular
pub mod FirstCircular
pub mod NoncircularLaws
pub mod Worked
