pub mod FirstOfEach
pub mod Joining
pub mod LastEntry
pub mod Outdone
pub mod SetSlots
pub mod Taking
