use Rattle.std.proofs.Common.{arith}
use Rattle.rd_graph.specs.Internal.Relisting.{has_mark}
use Rattle.rd_graph.specs.Internal.Seen.{seen, seen_one}
use Rattle.rd_graph.proofs.Patches.Quiet.{quiet_next}
use Rattle.rd_graph.proofs.Patches.SeenAt.{seen_at}
use Rattle.rd_graph.proofs.changing.past_runs.Goals as goal

pub loop-place-preserved : goal.loop-place-preserved
loop-place-preserved c =
    let n = c.index-nodes-place.result in
    let marked = has_mark c.args.marks.now in
    let l = c.loop-place-test.true in
    let e = c.requires.end in
    let after = c.loop-place.invariant.after in
    record {
      after = omega (arith, after);
      within = omega (arith, l);
      quiet = quiet_next marked (seen c.args.nodes.now) c.args.from c.loop-place.place (seen_one n) (seen_at c.args.nodes.now c.loop-place.place n (omega (arith, l, e)) c.index-nodes-place.is)
          c.loop-place.invariant.quiet (c.follows_one.ensures c.if-follows_one.true);
    }

pub loop-place-2-preserved : goal.loop-place-2-preserved
loop-place-2-preserved c =
    let n = c.index-nodes-place-in-loop-place-2.result in
    let marked = has_mark c.args.marks.now in
    let l = c.loop-place-2-test.true in
    let e = c.requires.end in
    let after = c.loop-place-2.invariant.after in
    record {
      after = omega (arith, after);
      within = omega (arith, l);
      quiet = quiet_next marked (seen c.args.nodes.now) c.args.from c.loop-place-2.place (seen_one n) (seen_at c.args.nodes.now c.loop-place-2.place n (omega (arith, l, e)) c.index-nodes-place-in-loop-place-2.is)
          c.loop-place-2.invariant.quiet (c.follows_two.ensures c.if-follows_two.true);
    }
