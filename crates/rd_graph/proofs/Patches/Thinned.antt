-- Edges that others imply go, and the graph reaches as before.
pub mod Trims
pub mod Trimmings
pub mod Climbings
pub mod Thinnings
