use Rattle.std.proofs.Common.{refl, ap, arith, ℕ, List, ◌++◌, length}
use Rattle.rd_graph.specs.Internal.Walks.{counted}
use Rattle.rd_graph.proofs.Lists.Gatherings.{whole_at_end}
use Rattle.rd_graph.proofs.Lists.Countings.{counted_next, free_few}
use Rattle.rd_graph.proofs.arranging.counted_places.Goals as goal

pub loop-place-preserved : goal.loop-place-preserved
loop-place-preserved c = record {
  places = counted_next c.args.found.now c.loop-place.place-index _ c.loop-place.next c.in_ok-next.next c.loop-place.places.items c.push_counted.new.places.items _ c.loop-place-test.true c.loop-place.invariant.places c.in_ok-next.ensures.next c.in_ok-next.ensures.places;
  few = free_few c.loop-place.next c.in_ok-next.next _ c.loop-place.place-index _ c.in_ok-next.ensures.next c.loop-place.invariant.few;
}

pub loop-place-init : goal.loop-place-init
loop-place-init c = record { places = ap (λ (ps : List ℕ). ps ++ counted (length c.args.nodes.now) c.args.found.now) c.in_ok-places.ensures.items; few = omega arith }

pub returns : goal.returns
returns c = whole_at_end (counted c.loop-place.next) c.args.found.now c.loop-place.place-index c.loop-place.places.items _ c.loop-place-test.false refl c.loop-place.invariant.places
