pub mod Unread
pub mod Opened
pub mod Sent
pub mod Written
pub mod Links
pub mod Batches
pub mod OpenedFacts
pub mod PlainFacts
