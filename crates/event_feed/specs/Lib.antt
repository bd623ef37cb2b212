pub mod Fault
pub mod Texts
pub mod Progress
pub mod Ends
pub mod Feed
pub mod Events
pub mod Steps
