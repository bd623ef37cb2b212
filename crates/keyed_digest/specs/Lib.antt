pub mod Hmac
pub mod HmacFacts
pub mod Pads
