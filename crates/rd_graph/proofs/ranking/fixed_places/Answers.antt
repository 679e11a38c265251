use Rattle.std.proofs.Common.{refl, ap, ℕ, List, ◌++◌}
use Rattle.rd_graph.specs.Internal.Ranks.{fixed}
use Rattle.rd_graph.proofs.Lists.Gatherings.{whole_at_end}
use Rattle.rd_graph.proofs.LinedUp.ByRanks.Ranks.{fixed_next}
use Rattle.rd_graph.proofs.ranking.fixed_places.Goals as goal

pub loop-place-init : goal.loop-place-init
loop-place-init c = record { some = ap (λ (ps : List ℕ). ps ++ fixed c.args.stays.now c.args.places.now c.args.places.now) c.new-some.ensures.items }

pub loop-place-preserved : goal.loop-place-preserved
loop-place-preserved c = record { some = fixed_next c.args.stays.now c.args.places.now c.args.places.now c.loop-place.place-index 0 _ c.loop-place.some.items c.push_if.new.places.items _ c.loop-place-test.true refl c.loop-place.invariant.some c.has.ensures.stays c.in_ok-push_if.ensures }

pub returns : goal.returns
returns c = whole_at_end (λ (ps : List ℕ). fixed c.args.stays.now ps ps) c.args.places.now c.loop-place.place-index c.loop-place.some.items _ c.loop-place-test.false refl c.loop-place.invariant.some
