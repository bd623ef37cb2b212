pub mod Spots
pub mod Pieces
pub mod Wholes
pub mod Taking
pub mod Keyed
pub mod AtKey
pub mod Walks
