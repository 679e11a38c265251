-- The line of a merge by ranks, where places are out of order.
pub mod Ranks
pub mod RankedLines
pub mod RankedRuns
pub mod RankedMerges
pub mod Cuts
pub mod CountedRanks
pub mod RankParts
