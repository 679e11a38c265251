-- How often a leaf and a group come in a fresh list.
pub mod Sums
pub mod Paths
pub mod Weights
pub mod InlineLines
pub mod Takes
pub mod Counted
pub mod Few
pub mod OnCanvas
