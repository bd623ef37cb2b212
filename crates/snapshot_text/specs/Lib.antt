pub mod Fault
pub mod Snapshot
pub mod Sound
pub mod Reading
pub mod Progress
pub mod Going
