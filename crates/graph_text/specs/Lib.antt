pub mod Drawing
pub mod Lines
pub mod Near
pub mod Places
