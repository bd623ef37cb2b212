pub mod Guards
pub mod Fault
