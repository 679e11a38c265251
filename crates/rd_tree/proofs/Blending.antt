-- The counts of blended layers, as each call leaves them.
pub mod Counts
pub mod Shifting
pub mod Climbing
pub mod Edits
