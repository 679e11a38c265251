-- What private contracts, invariants and codings say. No public clause cites it, so a reader need not read it.
pub mod Bands
pub mod Crossing
pub mod Joining
pub mod Normal
pub mod Room
