pub mod Row
pub mod Rows
pub mod Sound
pub mod Memory
pub mod Tidy
