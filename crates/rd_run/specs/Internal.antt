-- What private contracts, invariants and codings say. No public clause cites it, so a reader need not read it.
pub mod Lasts
pub mod Limits
pub mod Telling
pub mod Session
pub mod SessionCode
pub mod Answered
pub mod Told
pub mod OnTiles
