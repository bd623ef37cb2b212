pub mod Dependencies
pub mod ItemGraph
pub mod Listed
pub mod Once
pub mod Kept
pub mod WalkLaws
pub mod Closure
