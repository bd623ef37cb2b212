pub mod AtKey
pub mod Exits
pub mod Pairs
pub mod Walks
