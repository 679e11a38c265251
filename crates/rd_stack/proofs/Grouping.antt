-- Which boxes of a tree are grouped.
pub mod Apart
pub mod Shape
pub mod Drawn
pub mod Own
pub mod Holes
pub mod Stays
pub mod Normal
