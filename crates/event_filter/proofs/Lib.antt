mod Registers
mod Alike
mod After
pub mod Bodies
pub mod Lowered
pub mod Meanwhile
pub mod Asks
pub mod Children
pub mod Frames
pub mod Truth
pub mod Speaking
pub mod Messages
pub mod Marks
pub mod Rows
pub mod RowsRead
