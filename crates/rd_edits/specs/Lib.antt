pub mod Edited
pub mod Ranges
pub mod Refusals
