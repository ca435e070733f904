pub mod NestFault
pub mod WithoutNests
pub mod NestAccepted
pub mod Worked
