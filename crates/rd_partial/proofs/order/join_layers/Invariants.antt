use Rattle.std.proofs.Common.{◌≡◌, map}
use Rattle.std.specs.Vec.Iter.{into_iter_items}
use Rattle.rd_list.specs.Entries.{◌▷◌, each}
use Rattle.rd_list.specs.Nested.{laid_out}
use Rattle.rd_partial.specs.Internal.Held.{held_stack}
use Rattle.rd_partial.proofs.order.join_layers.Given as goal

abbrev pub invariant-loop-layer : goal.invariant-loop-layer
invariant-loop-layer g l = laid_out l.out ▷ each (λ y. y.order) (map held_stack (into_iter_items l.layer-iterator)) ≡ laid_out l.fn.out ▷ each (λ y. y.order) (map held_stack l.fn.layers.items)
