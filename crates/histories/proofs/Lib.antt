pub mod History
pub mod Steps
pub mod Lists
pub mod Pairing
pub mod Telling
pub mod Written
