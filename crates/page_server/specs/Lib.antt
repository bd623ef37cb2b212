pub mod Hosts
pub mod Refusals
pub mod Asked
pub mod Tags
pub mod Fields
pub mod Answers
