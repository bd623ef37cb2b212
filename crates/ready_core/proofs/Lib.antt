pub mod Known
pub mod Causing
mod OwnConditions
pub mod Refusing
pub mod Ranking
pub mod Judging
pub mod GateOrder
pub mod GateVerdicts
pub mod Following
pub mod Unique
