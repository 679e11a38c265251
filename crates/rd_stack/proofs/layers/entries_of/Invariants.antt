use Rattle.std.proofs.Common.{◌≡◌, take, map}
use Rattle.rd_list.specs.Entries.{◌▷◌, each}
use Rattle.rd_stack.specs.Internal.Values.{now}
use Rattle.rd_stack.specs.Painting as painting
use Rattle.rd_stack.proofs.layers.entries_of.Given as goal

abbrev pub invariant-loop-x : goal.invariant-loop-x
invariant-loop-x l = l.out ≡ l.fn.out ▷ each painting.entry_of (map now (take l.x-index l.xs))
