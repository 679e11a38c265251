-- Links that stand for a forest, and how they are changed.
pub mod Standing
pub mod Children
pub mod Cutting
pub mod Grafting
pub mod Placing
