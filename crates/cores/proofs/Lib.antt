pub mod Alive
pub mod Near
pub mod Queue
pub mod Steps
pub mod Settling
pub mod Fitting
pub mod Numbered
