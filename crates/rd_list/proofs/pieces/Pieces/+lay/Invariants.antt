use Rattle.std.proofs.Common.{◌≡◌, ◌≤◌}
use Rattle.std.specs.Vec.Iter.{into_iter_items}
use Rattle.rd_list.specs.Entries.{◌▷◌}
use Rattle.rd_list.specs.Nested.{laid_out}
use Rattle.rd_list.specs.Internal.Piled.{piled, nested_size}
use Rattle.rd_list.proofs.pieces.Pieces.+lay.Given as goal

abbrev pub invariant-loop-list : goal.invariant-loop-list
invariant-loop-list g l = (nested_size (piled (into_iter_items l.list-iterator) l.top.items) ≤ nested_size l.fn.self) × (l.out ▷ laid_out (piled (into_iter_items l.list-iterator) l.top.items) ≡ l.fn.out ▷ laid_out l.fn.self)
