use Rattle.std.proofs.Common.{◌+◌, ◌++◌, arith}
use Rattle.rd_graph.specs.Internal.Seen.{seen}
use Rattle.rd_graph.proofs.Patches.Kinds.{along_less, moved_along}
use Rattle.rd_graph.proofs.chunks.put_run.Goals as goal

pub loop-done-preserved : goal.loop-done-preserved
loop-done-preserved c =
    let all = seen c.args.nodes.now ++ seen c.args.made.now in
    let from = c.args.run.from in
    let start = c.args.start in
    let done = c.loop-done.done in
    let n = c.part_at-part.result.count in
    let kinds = c.part_at-part.result.kinds in
    let end = c.chunk_end-end.ensures in
    let after = end.after in
    let low = end.within in
    let few = c.part_at-part.ensures.within in
    record {
      within = omega (arith, after, low, few);
      told = λ g moved first. c.put_kinds.ensures g (start + (done + n)) (λ k a b. end.one k a (omega (arith, b, few, after)))
          (along_less g kinds (start + done) (start + done + n) (start + (done + n)) (omega arith)
          (moved_along all g from start c.args.run.count done n kinds moved (omega (arith, after, low, few)) c.part_at-part.ensures.told))
          (c.loop-done.invariant.told g moved first);
    }
