use Rattle.rd_graph.proofs.Lists.Countings.{yes_if, no_if, met_next, ahead_next, met_all, met_not}
use Rattle.rd_graph.proofs.arranging.are_among.Goals as goal

pub loop-place-preserved : goal.loop-place-preserved
loop-place-preserved c = record {
  met = met_next c.args.gone.now c.args.places.now c.loop-place.place-index c.loop-place.met _ c.loop-place-test.true c.loop-place.invariant.met c.advance_past-met.ensures;
  ahead = ahead_next c.args.gone.now c.args.places.now c.loop-place.place-index c.loop-place.met _ c.requires.gone c.requires.places c.loop-place-test.true c.loop-place.invariant.ahead c.advance_past-met.ensures;
}

pub returns : goal.returns
returns c = yes_if _ (met_all c.args.gone.now c.args.places.now c.loop-place.place-index c.loop-place.met c.loop-place-test.false c.if-met-gone.false c.loop-place.invariant.met)

pub returns-then-met-gone : goal.returns-then-met-gone
returns-then-met-gone c = no_if _ (met_not c.args.gone.now c.args.places.now c.loop-place.place-index c.loop-place.met c.loop-place-test.false c.if-met-gone.true c.loop-place.invariant.ahead)
