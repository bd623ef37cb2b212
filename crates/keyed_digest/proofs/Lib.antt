pub mod Crossing
pub mod Pads
