pub mod Numbers
pub mod Form
pub mod Choices
pub mod Routes
