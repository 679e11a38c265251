use Rattle.std.proofs.Common.{◌≡◌, take}
use Rattle.rd_keys.specs.declared.entry.EntryKey.{EntryKey}
use Rattle.rd_graph.specs.Internal.Tables.{at}
use Rattle.rd_graph.specs.Internal.Trimming.{HasMark}
use Rattle.rd_graph.specs.Names.{place_of, same_entry}
use Rattle.rd_graph.proofs.asking.places_asked.Given as goal

abbrev pub invariant-loop-i : goal.invariant-loop-i
invariant-loop-i l = record { placed : (k : EntryKey) → HasMark l.marks k → at l.table k ≡ place_of same_entry (take l.i l.chain) k }
