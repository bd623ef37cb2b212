mod WrittenLines
mod HowItEnds
mod OfRecord
mod Merged
mod Played
mod Simulated
mod SameEnds
pub mod Checking
mod ItemEnds
