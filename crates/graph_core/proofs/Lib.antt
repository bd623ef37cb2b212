pub mod Listing
pub mod Searching
pub mod Waiting
pub mod Placing
pub mod Naming
pub mod Building
pub mod Closing
