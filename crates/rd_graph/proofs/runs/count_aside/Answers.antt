use Rattle.std.proofs.Common.{false, ◌∷◌, [], ap, arith, get_or, length, take}
use Rattle.std.proofs.lemmas.List.{length-append}
use Rattle.rd_graph.specs.Runs.{places_aside}
use Rattle.rd_graph.specs.declared.runs.Run.{Run}
use Rattle.rd_graph.proofs.Patches.ListsAt.{get_same}
use Rattle.rd_graph.proofs.LinedUp.RunGathering.{aside_more}
use Rattle.rd_graph.proofs.runs.count_aside.Goals as goal

pub loop-run-preserved : goal.loop-run-preserved
loop-run-preserved c =
    let runs = c.args.runs.now in
    let k = c.loop-run.run-index in
    let r : Run = get_or runs k (record { from = 0; count = 0; aside = false }) in
    let m = ap length (aside_more runs k r c.loop-run-test.true (get_same runs k _ r c.loop-run-test.true)) in
    let a = length-append (places_aside (take k runs)) (places_aside (r ∷ [])) in
    let i = c.loop-run.invariant.count in
    let one = c.aside_of.ensures in
    let s = c.saturating_add-count.ensures in
    record { count = omega (arith, m, a, i, one, s) }
