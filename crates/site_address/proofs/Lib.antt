pub mod Cutting
pub mod Writing
