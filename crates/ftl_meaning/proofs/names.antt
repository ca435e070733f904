pub mod Names
pub mod NameFaults
pub mod NoNameFault
pub mod Numbered
pub mod Printed
pub mod Standing
