use Rattle.rd_graph.specs.Internal.Tables.{at}
use Rattle.rd_graph.proofs.Patches.AskedPlaces.{asked_next}
use Rattle.rd_graph.proofs.asking.places_asked.Goals as goal

pub loop-i-preserved : goal.loop-i-preserved
loop-i-preserved c = record {
  placed = asked_next c.args.chain.now c.loop-i.i _ c.args.marks.now (at c.loop-i.table) (at c.put_asked.new.table) c.requires c.loop-i-test.true c.loop-i.invariant.placed
      c.in_ok-put_asked.ensures.put c.in_ok-put_asked.ensures.kept;
}
