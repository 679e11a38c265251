use Rattle.std.proofs.Common.{◌≡◌, false, take}
use Rattle.rd_graph.specs.Names.{is_in, same_entry}
use Rattle.rd_graph.proofs.before.is_among.Given as goal

abbrev pub invariant-loop-key : goal.invariant-loop-key
invariant-loop-key l = record { none : is_in same_entry (take l.key-index l.keys) l.name ≡ false }
