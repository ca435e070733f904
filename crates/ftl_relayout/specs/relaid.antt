pub mod Relaid
