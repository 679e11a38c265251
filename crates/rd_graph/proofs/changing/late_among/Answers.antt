use Rattle.std.proofs.Common.{◌∙◌, ◌+◌, sym, arith}
use Rattle.rd_graph.specs.Internal.Relisting.{has_mark}
use Rattle.rd_graph.specs.Internal.Seen.{seen, seen_one}
use Rattle.rd_graph.proofs.Patches.Quiet.{quiet_join, quiet_next}
use Rattle.rd_graph.proofs.Patches.SeenAt.{seen_at}
use Rattle.rd_graph.proofs.changing.late_among.Goals as goal

pub loop-place-preserved : goal.loop-place-preserved
loop-place-preserved c =
    let n = c.index-nodes-place.result in
    let marked = has_mark c.args.marks.now in
    let ns = seen c.args.nodes.now in
    let i = c.loop-place.place in
    let l = c.loop-place-test.true in
    let e = c.requires.end in
    let before = c.loop-place.invariant.after in
    let next = c.past_runs-place-in-loop-place.ensures in
    let after = next.after in
    record {
      after = omega (arith, before, after);
      within = next.within;
      quiet = quiet_join marked ns c.args.from (i + 1) _ (quiet_next marked ns c.args.from i (seen_one n) (seen_at c.args.nodes.now i n (omega (arith, l, e)) c.index-nodes-place.is)
          c.loop-place.invariant.quiet (sym c.some_marked.ensures ∙ c.if-not-some_marked.true)) next.quiet;
    }
