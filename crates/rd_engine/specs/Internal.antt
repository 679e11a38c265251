-- What private contracts, invariants and proofs say. No public clause cites it, so a reader need not read it.
pub mod Counting
pub mod Parts
pub mod StateCode
