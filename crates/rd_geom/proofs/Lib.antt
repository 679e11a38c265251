pub mod Areas
pub mod Hulls
pub mod Mixing
pub mod Pixels
pub mod Products
