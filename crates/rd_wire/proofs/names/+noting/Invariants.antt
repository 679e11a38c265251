use Rattle.std.proofs.Common.{◌≡◌, ◌++◌, ◌+◌, ◌*◌, take, [], ◌∷◌}
use Rattle.rd_graph.specs.Orders.{Once}
use Rattle.rd_list.specs.Entries.{list_size}
use Rattle.rd_wire.specs.Wires.{names}
use Rattle.rd_wire.specs.Internal.Listed.{listed}
use Rattle.rd_wire.proofs.names.+noting.Given as goal

abbrev pub invariant-note_all-loop-entry : goal.invariant-note_all-loop-entry
invariant-note_all-loop-entry l = record {
  noted : l.seen.keys ≡ l.fn.seen.keys ++ names (listed (take l.entry-index l.entries));
  once : Once l.fn.seen.keys → Once l.seen.keys;
}

abbrev pub decreases-note_names : goal.decreases-note_names
decreases-note_names l = 3 * list_size l.list.now + 2

abbrev pub decreases-note_all : goal.decreases-note_all
decreases-note_all l = 3 * list_size (listed l.entries.now) + 1

abbrev pub decreases-note_entry : goal.decreases-note_entry
decreases-note_entry l = 3 * list_size (listed (l.entry.now ∷ []))
