pub mod Fault
pub mod Ports
pub mod Sinks
pub mod OwnSite
pub mod Guarding
