use Rattle.std.proofs.Common.{refl, ap, arith, List, ◌++◌}
use Rattle.rd_graph.specs.Internal.Ranks.{loose, spread}
use Rattle.rd_graph.specs.declared.ranked.RankedRun.{RankedRun}
use Rattle.rd_graph.proofs.Lists.Gatherings.{whole_at_end}
use Rattle.rd_graph.proofs.LinedUp.ByRanks.Ranks.{loose_next, rank_few}
use Rattle.rd_graph.proofs.ranking.loose_runs.Goals as goal

pub loop-place-preserved : goal.loop-place-preserved
loop-place-preserved c = record {
  runs = loose_next c.args.stays.now c.args.places.now c.loop-place.place-index c.loop-place.rank c.in_ok-rank.rank (spread c.loop-place.runs.items) (spread c.push_loose.new.runs.items) _ c.loop-place-test.true c.loop-place.invariant.runs c.in_ok-rank.ensures.runs c.in_ok-rank.ensures.rank;
  few = rank_few c.args.stays.now c.loop-place.rank c.in_ok-rank.rank _ c.loop-place.place-index c.loop-place.invariant.few c.in_ok-rank.ensures.rank;
}

pub loop-place-init : goal.loop-place-init
loop-place-init c = record { runs = ap (λ (rs : List RankedRun). spread rs ++ loose c.args.stays.now 0 c.args.places.now) c.new-runs.ensures.items; few = omega arith }

pub returns : goal.returns
returns c = whole_at_end (loose c.args.stays.now c.loop-place.rank) c.args.places.now c.loop-place.place-index (spread c.loop-place.runs.items) _ c.loop-place-test.false refl c.loop-place.invariant.runs
