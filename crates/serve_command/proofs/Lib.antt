pub mod Adding
pub mod Ending
mod Reading
mod Torn
mod Starts
mod Restarting
mod Leaving
