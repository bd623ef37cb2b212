pub mod Failures
pub mod Ends
pub mod Broken
pub mod BrokenLaws
pub mod ReadAll
pub mod Lines
