pub mod Asking
pub mod Broken
pub mod Cycles
pub mod Lookups
pub mod Steps
