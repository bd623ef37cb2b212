pub mod Getting
pub mod Refusing
