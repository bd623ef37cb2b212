pub mod Over
pub mod Listing
pub mod Keeping
pub mod Searching
pub mod Lines
pub mod Following
pub mod Fault
pub mod Reading
