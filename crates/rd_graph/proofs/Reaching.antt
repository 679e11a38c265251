-- What reaches what in a graph after the plain calls: a chain, nodes that are dropped, a chain that is added.
pub mod Chains
pub mod Calls
pub mod Forward
pub mod Lines
pub mod OnePass
pub mod Stitches
pub mod Labels
pub mod Joined
pub mod Sorting
pub mod Adding
pub mod Added
pub mod Dropping
pub mod Joining
