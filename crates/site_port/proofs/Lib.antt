pub mod OneReply
pub mod Handed
