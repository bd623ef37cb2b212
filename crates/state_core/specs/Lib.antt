pub mod State
pub mod StateLaws
pub mod Items
pub mod ItemLaws
pub mod GreatestKnown
pub mod Known
pub mod KnownLaws
pub mod SearchLaws
