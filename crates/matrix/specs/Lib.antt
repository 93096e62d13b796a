pub mod Bits
pub mod Kept
pub mod Memory
pub mod Words
