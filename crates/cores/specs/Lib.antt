pub mod Lanes
pub mod Lent
pub mod Falling
pub mod Answer
