mod Moves
pub mod CutLemmas
