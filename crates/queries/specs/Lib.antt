pub mod Choosing
pub mod Asking
pub mod Written
pub mod Refusals
