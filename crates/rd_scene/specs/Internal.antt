-- What private contracts and proofs say. No public clause cites it, so a reader need not read it.
pub mod Changes
pub mod Gives
pub mod Steps
pub mod WellFormed
pub mod Widths
