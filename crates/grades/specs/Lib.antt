pub mod Places
pub mod Encoding
pub mod Weaker
