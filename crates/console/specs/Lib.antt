pub mod Console
pub mod Inputs
pub mod Printing
pub mod Pulls
pub mod Refusals
pub mod Showing
