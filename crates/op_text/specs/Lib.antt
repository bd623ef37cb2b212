pub mod Fault
pub mod Canonical
pub mod Field
pub mod Shape
pub mod Spelling
pub mod Text
pub mod Front
pub mod OneSpelling
