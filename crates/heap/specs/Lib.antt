pub mod Order
pub mod Bag
