pub mod Shown
pub mod Html
pub mod Reading
pub mod Pieces
pub mod Growing
pub mod Adding
