pub mod building
