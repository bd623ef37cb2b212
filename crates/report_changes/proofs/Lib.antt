mod Members
mod OneGroup
mod Texts
mod OneReading
