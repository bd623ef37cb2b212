pub mod Answering
pub mod Ending
pub mod Talking
pub mod Words
pub mod Pulling
pub mod PassingOn
pub mod Moments
pub mod OneAnswer
