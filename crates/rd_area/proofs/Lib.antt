pub mod Merging
pub mod Banded
pub mod Spans
pub mod Pixels
pub mod Counting
pub mod Crossing
