pub mod Lines
pub mod Owners
