pub mod Sealing
pub mod Keystream
pub mod Greetings
pub mod Keys
pub mod Words
