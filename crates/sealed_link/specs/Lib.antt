pub mod Faults
pub mod Wires
pub mod Lines
pub mod Admits
pub mod Begins
