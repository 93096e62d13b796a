pub mod Net
pub mod Changes
pub mod Fixed
pub mod Places
