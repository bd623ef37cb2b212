pub mod Fault
pub mod Fields
pub mod ScriptLines
pub mod Script
