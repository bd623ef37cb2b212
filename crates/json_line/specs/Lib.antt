pub mod Tokens
pub mod Adding
