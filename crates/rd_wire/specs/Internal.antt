-- What private contracts, invariants and codings say. No public clause cites it, so a reader need not read it.
pub mod Reading
pub mod LeafReading
pub mod Ones
pub mod LevelReading
pub mod Listed
pub mod ListFalls
pub mod Gives
pub mod Counts
