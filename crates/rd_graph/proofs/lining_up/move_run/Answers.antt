use Rattle.std.proofs.Common.{arith}
use Rattle.std.specs.Vec.Iter.{into_iter_items}
use Rattle.rd_graph.proofs.LinedUp.RunLines.{dropped_on, taken_on}
use Rattle.rd_graph.proofs.lining_up.move_run.Goals as goal

pub loop-preserved : goal.loop-preserved
loop-preserved g c =
    let inv = c.loop.invariant in
    let len = c.move_next.ensures.len in
    let more = c.move_next.ensures.room in
    record {
      left = dropped_on c.loop.counter (into_iter_items c.args.rest.now) (into_iter_items c.loop.rest) _ inv.left c.move_next.ensures.left;
      moved = taken_on c.loop.counter (into_iter_items c.args.rest.now) (into_iter_items c.loop.rest) c.args.room.now.items c.loop.room.items _ inv.left inv.moved c.move_next.ensures.moved;
      filled = omega (arith, len, inv.filled);
      roomy = omega (arith, more, inv.roomy);
    }
