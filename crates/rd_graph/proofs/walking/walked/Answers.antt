use Rattle.std.proofs.Common.{◌∙◌, ◌++◌, ◌-◌, ap}
use Rattle.rd_graph.specs.Internal.Walks.{staying}
use Rattle.rd_graph.specs.Runs.{places_of}
use Rattle.rd_graph.proofs.LinedUp.Markings.{walk_next, walk_end}
use Rattle.rd_graph.proofs.walking.walked.Goals as goal

pub loop-place-preserved : goal.loop-place-preserved
loop-place-preserved c = record { line = walk_next c.args.stays.now c.args.places.now c.loop-place.place-index c.loop-place.from c.in_ok-from.from (places_of c.loop-place.line.items) (places_of c.push_led.new.line.items) _ c.loop-place-test.true c.loop-place.invariant.line c.in_ok-from.ensures.line c.in_ok-from.ensures.from }

pub returns : goal.returns
returns c = walk_end c.args.stays.now c.args.places.now c.loop-place.place-index c.loop-place.from (places_of c.loop-place.line.items) (places_of c.push_stretch.new.line.items) _ c.loop-place-test.false c.loop-place.invariant.line (c.in_ok-push_stretch.ensures ∙ ap (λ n. places_of c.loop-place.line.items ++ staying c.args.stays.now c.loop-place.from (n - c.loop-place.from)) c.len.ensures)
