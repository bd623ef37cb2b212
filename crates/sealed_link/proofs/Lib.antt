pub mod Opens
pub mod Dialings
pub mod Sealings
pub mod OtherSide
