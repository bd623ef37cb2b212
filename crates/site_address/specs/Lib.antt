pub mod Address
pub mod Host
pub mod Peer
