pub mod Fault
pub mod Numbered
pub mod World
pub mod Step
pub mod Convergence
