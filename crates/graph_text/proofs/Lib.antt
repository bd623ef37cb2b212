pub mod Around
pub mod Drawn
pub mod Firsts
pub mod Kept
pub mod PlaceByPlace
pub mod Words
