pub mod Fault
pub mod Texts
pub mod Commands
pub mod Answers
pub mod Session
pub mod Pull
pub mod Steps
pub mod PassingOn
