-- The line of a merge, in which each edge goes forward: how it is arranged, and runs of it.
pub mod RunLines
pub mod AllMade
pub mod LineFacts
pub mod ChainPlaces
pub mod StandingStill
pub mod Walks
pub mod Markings
pub mod WalkedLines
pub mod MadeLines
pub mod PlacedLines
pub mod RunGathering
pub mod MovedNodes
pub mod InPlace
pub mod Windows
pub mod StayBits
pub mod ByRanks
