pub mod Lines
pub mod Recovering
