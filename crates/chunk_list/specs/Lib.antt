pub mod Ranks
pub mod Chunks
pub mod RankLaws
pub mod Looks
pub mod Merged
