pub mod Faulty
