pub mod demand
