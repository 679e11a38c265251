-- What private contracts, invariants and codings say. No public clause cites it, so a reader need not read it.
pub mod Answering
