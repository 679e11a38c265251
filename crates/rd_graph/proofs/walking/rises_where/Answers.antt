use Rattle.rd_graph.proofs.Lists.Countings.{yes_if, no_if}
use Rattle.rd_graph.proofs.LinedUp.Markings.{where_more, where_not, where_all}
use Rattle.rd_graph.proofs.walking.rises_where.Goals as goal

pub loop-place-preserved : goal.loop-place-preserved
loop-place-preserved c = record { rest = where_more _ c.args.stays.now c.loop-place.from c.args.places.now c.loop-place.place-index _ c.loop-place-test.true c.loop-place.invariant.rest c.in-Some.ensures.0 c.in-Some.ensures.1 }

pub returns : goal.returns
returns c = yes_if _ (where_all _ c.args.stays.now c.loop-place.from c.args.places.now c.loop-place.place-index c.loop-place-test.false c.loop-place.invariant.rest)

pub returns-in-None : goal.returns-in-None
returns-in-None c = no_if _ (where_not _ c.args.stays.now c.loop-place.from c.args.places.now c.loop-place.place-index c.loop-place-test.true c.loop-place.invariant.rest c.in-None.ensures.0 c.in-None.ensures.1)
