pub mod Bytes
pub mod Lines
pub mod Crashes
pub mod Steps
pub mod Keeping
pub mod Starting
pub mod Fronts
mod Kept
mod Batches
