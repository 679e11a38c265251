-- What private contracts, invariants and codings say. No public clause cites it, so a reader need not read it.
pub mod Edged
pub mod EntriesCode
pub mod Fits
pub mod ListFalls
pub mod LastHit
pub mod Listed
pub mod KeptCode
pub mod KeptFalls
pub mod NewFalls
pub mod Piled
pub mod NestedCode
pub mod PileFalls
pub mod Telling
