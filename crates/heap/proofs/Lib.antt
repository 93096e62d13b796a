pub mod Order
pub mod Turns
pub mod Standing
pub mod Sorting
