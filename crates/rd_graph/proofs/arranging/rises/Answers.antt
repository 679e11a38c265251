use Rattle.rd_graph.proofs.Lists.Countings.{yes_if, no_if, rises_more, rises_least, rises_end, rises_all}
use Rattle.rd_graph.proofs.arranging.rises.Goals as goal

pub loop-place-preserved : goal.loop-place-preserved
loop-place-preserved c = record { rest = rises_more _ c.args.end c.loop-place.least c.args.places.now c.loop-place.place-index c.loop-place-test.true c.loop-place.invariant.rest c.if-place-least.false c.if-end-place.false }

pub returns : goal.returns
returns c = yes_if _ (rises_all _ c.args.end c.loop-place.least c.args.places.now c.loop-place.place-index c.loop-place-test.false c.loop-place.invariant.rest)

pub returns-then-place-least : goal.returns-then-place-least
returns-then-place-least c = no_if _ (rises_least _ c.args.end c.loop-place.least c.args.places.now c.loop-place.place-index c.loop-place-test.true c.loop-place.invariant.rest c.if-place-least.true)

pub returns-then-end-place : goal.returns-then-end-place
returns-then-end-place c = no_if _ (rises_end _ c.args.end c.loop-place.least c.args.places.now c.loop-place.place-index c.loop-place-test.true c.loop-place.invariant.rest c.if-end-place.true)
