-- What private contracts, invariants and codings say. No public clause cites it, so a reader need not read it.
pub mod Runs
pub mod Bands
pub mod Picks
pub mod Frames
pub mod Rects
pub mod Strips
