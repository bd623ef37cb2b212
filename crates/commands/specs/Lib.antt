pub mod Answers
pub mod Asked
pub mod Ending
pub mod Running
