-- What is told of each box, once boxes change.
pub mod Sums
pub mod Hulls
pub mod Of
pub mod Put
pub mod Cut
pub mod Within
pub mod Each
pub mod Settled
pub mod Placed
pub mod Branch
pub mod Nearby
pub mod Extents
