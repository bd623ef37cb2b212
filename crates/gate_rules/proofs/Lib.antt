pub mod Bases
pub mod Found
pub mod Lists
pub mod Spelled
pub mod Votes
pub mod Trials
pub mod Places
pub mod BadItems
