pub mod Lines
mod PartStates
