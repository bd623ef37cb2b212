pub mod Opening
pub mod Writing
