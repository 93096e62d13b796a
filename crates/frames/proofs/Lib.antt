pub mod Spelling
pub mod Letters
pub mod Checks
pub mod Faithful
pub mod Sealing
pub mod Meant
pub mod Calls
