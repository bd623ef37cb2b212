pub mod Asked
pub mod Chain
pub mod Cycle
pub mod Why
pub mod All
pub mod Each
pub mod Among
