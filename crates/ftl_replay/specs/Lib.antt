pub mod example_works
pub mod interleavings
