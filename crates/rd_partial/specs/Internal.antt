-- What private contracts, invariants and proofs say. No public clause cites it, so a reader need not read it.
pub mod ContextLists
pub mod Pass
pub mod Picking
pub mod Counting
pub mod Inherited
pub mod Given
pub mod BoxLook
pub mod Held
pub mod Work
pub mod Visited
pub mod Growing
pub mod Touched
pub mod Seeking
