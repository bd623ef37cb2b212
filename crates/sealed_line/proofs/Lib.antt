pub mod Stream
pub mod Crosses
pub mod Seals
pub mod Firsts
