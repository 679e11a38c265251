pub mod Accepted
pub mod Kept
pub mod State
pub mod Invalid
pub mod Painted
pub mod Internal
