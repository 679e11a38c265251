use Rattle.std.proofs.Common.{◌<◌, ℕ, List, length, take}
use Rattle.rd_keys.specs.declared.entry.EntryKey.{EntryKey}
use Rattle.rd_graph.specs.Internal.Patching.{lists_seen}
use Rattle.rd_graph.proofs.Lists.Listing.{Has}
use Rattle.rd_graph.proofs.trimming.are_short.Given as goal

abbrev pub invariant-loop-list : goal.invariant-loop-list
invariant-loop-list l = record { short : (m : ℕ × List EntryKey) → Has (take l.list-index (lists_seen l.lists)) m → length m.1 < 2 }
