pub mod Closed
pub mod Refusals
pub mod Verdicts
pub mod Causes
pub mod WholeLaws
pub mod ItemRanks
pub mod RankedVerdicts
pub mod Words
