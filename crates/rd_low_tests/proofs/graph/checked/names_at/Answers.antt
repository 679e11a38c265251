use Rattle.rd_low_tests.proofs.Graphs.{gathered_push}
use Rattle.rd_low_tests.proofs.graph.checked.names_at.Goals as goal

pub loop-place-preserved : goal.loop-place-preserved
loop-place-preserved c = record {
  names = gathered_push c.args.places.now c.args.order.now _ _ c.loop-place.place-index _ c.loop-place-test.true (c.requires c.loop-place.place-index c.loop-place-test.true) c.loop-place.invariant.names
      c.in_ok-push.ensures.items;
}
