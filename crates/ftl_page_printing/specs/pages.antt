pub mod Alike
pub mod Pages
