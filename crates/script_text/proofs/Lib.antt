pub mod FieldLemmas
pub mod Saying
mod OneScript
