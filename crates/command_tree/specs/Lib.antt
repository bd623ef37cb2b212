pub mod Rules
pub mod Commands
pub mod Building
pub mod Matching
pub mod Rows
pub mod Parsing
