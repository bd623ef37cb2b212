pub mod Report
pub mod Why
