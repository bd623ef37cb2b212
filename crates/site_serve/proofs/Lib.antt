pub mod Boxes
pub mod Held
pub mod Waiting
pub mod Rights
pub mod Shown
pub mod PassingOn
pub mod Seating
pub mod Replies
mod Ends
