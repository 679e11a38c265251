-- What private contracts say. No public clause cites it, so a reader need not read it.
pub mod Reading
pub mod Rows
pub mod Nesting
pub mod Head
pub mod Lines
pub mod Rounds
pub mod Keyed
pub mod Finding
pub mod Sights
pub mod Near
pub mod Crossing
