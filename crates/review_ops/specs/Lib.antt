pub mod Timestamp
pub mod Deed
pub mod Good
pub mod Fault
pub mod Draft
pub mod Order
pub mod Operation
