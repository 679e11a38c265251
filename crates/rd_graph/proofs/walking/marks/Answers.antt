use Rattle.std.proofs.Common.{◌∙◌}
use Rattle.rd_graph.proofs.LinedUp.Markings.{marks_next, marks_all}
use Rattle.rd_graph.proofs.walking.marks.Goals as goal

pub loop-place-preserved : goal.loop-place-preserved
loop-place-preserved c = record {
  count = c.take.ensures.len ∙ c.loop-place.invariant.count;
  stays = marks_next c.loop-place.stays _ c.args.count c.args.gone.now c.loop-place.place-index c.loop-place-test.true c.take.ensures.here c.take.ensures.others c.loop-place.invariant.stays;
}

pub returns-clause-stays : goal.returns-clause-stays
returns-clause-stays c = marks_all c.loop-place.stays c.args.count c.args.gone.now c.loop-place.place-index c.loop-place-test.false c.loop-place.invariant.stays
