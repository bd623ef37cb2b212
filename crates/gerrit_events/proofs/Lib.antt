pub mod Numbers
pub mod Trees
pub mod Lists
pub mod Messages
pub mod Remembered
pub mod Agreeing
pub mod Settled
pub mod Parents
