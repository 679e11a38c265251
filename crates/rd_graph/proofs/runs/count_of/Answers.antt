use Rattle.std.proofs.Common.{false, arith, get_or}
use Rattle.rd_graph.specs.declared.runs.Run.{Run}
use Rattle.rd_graph.proofs.Patches.ListsAt.{get_same}
use Rattle.rd_graph.proofs.LinedUp.RunLines.{count_more}
use Rattle.rd_graph.proofs.runs.count_of.Goals as goal

pub loop-run-preserved : goal.loop-run-preserved
loop-run-preserved c =
    let runs = c.args.runs.now in
    let k = c.loop-run.run-index in
    let r : Run = get_or runs k (record { from = 0; count = 0; aside = false }) in
    let m = count_more runs k r c.loop-run-test.true (get_same runs k _ r c.loop-run-test.true) in
    let i = c.loop-run.invariant.count in
    let s = c.saturating_add-count.ensures in
    record { count = omega (arith, m, i, s) }
