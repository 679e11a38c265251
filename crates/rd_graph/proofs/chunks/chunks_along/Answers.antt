use Rattle.std.proofs.Common.{false, ℕ, ◌+◌, ◌++◌, ap, arith, get_or, length, subst, sym}
use Rattle.std.proofs.lemmas.List.{length-append}
use Rattle.rd_graph.specs.Gathered.{gathered}
use Rattle.rd_graph.specs.Runs.{places_of}
use Rattle.rd_graph.specs.Internal.Chunks.{IsMoved}
use Rattle.rd_graph.specs.Internal.Seen.{seen}
use Rattle.rd_graph.specs.declared.runs.Run.{Run}
use Rattle.rd_graph.proofs.LinedUp.MovedNodes.{gathered_few, moved_run}
use Rattle.rd_graph.proofs.LinedUp.RunGathering.{run_within}
use Rattle.rd_graph.proofs.LinedUp.RunLines.{count_more, count_within}
use Rattle.rd_graph.proofs.Patches.Kinds.{told_whole}
use Rattle.rd_graph.proofs.Patches.ListsAt.{get_same}
use Rattle.rd_graph.proofs.Patches.Marks.{take_whole}
use Rattle.rd_graph.proofs.Patches.SeenAt.{seen_length}
use Rattle.rd_graph.proofs.chunks.chunks_along.Goals as goal

pub put_run-requires-clause-places : goal.put_run-requires-clause-places
put_run-requires-clause-places c = λ k w.
    let runs = c.args.runs.now in
    let i = c.loop-run.run-index in
    let r : Run = get_or runs i (record { from = 0; count = 0; aside = false }) in
    run_within runs i (length c.args.nodes.now + length c.args.made.now) r c.loop-run-test.true (get_same runs i _ r c.loop-run-test.true) c.requires.places k w

pub put_run-requires-clause-few : goal.put_run-requires-clause-few
put_run-requires-clause-few c =
    let runs = c.args.runs.now in
    let i = c.loop-run.run-index in
    let r : Run = get_or runs i (record { from = 0; count = 0; aside = false }) in
    let u = count_within runs i r c.loop-run-test.true (get_same runs i _ r c.loop-run-test.true) in
    let start = c.loop-run.invariant.start in
    let few = c.requires.few in
    omega (arith, u, start, few)

pub overflow_add-start : goal.overflow_add-start
overflow_add-start c =
    let runs = c.args.runs.now in
    let i = c.loop-run.run-index in
    let r : Run = get_or runs i (record { from = 0; count = 0; aside = false }) in
    let u = count_within runs i r c.loop-run-test.true (get_same runs i _ r c.loop-run-test.true) in
    let start = c.loop-run.invariant.start in
    let few = c.requires.few in
    omega (arith, u, start, few)

pub loop-run-preserved : goal.loop-run-preserved
loop-run-preserved c =
    let runs = c.args.runs.now in
    let i = c.loop-run.run-index in
    let r : Run = get_or runs i (record { from = 0; count = 0; aside = false }) in
    let l = c.loop-run-test.true in
    let is = get_same runs i _ r l in
    let all = seen c.args.nodes.now ++ seen c.args.made.now in
    let old = seen_length c.args.nodes.now in
    let made = seen_length c.args.made.now in
    let sum = length-append (seen c.args.nodes.now) (seen c.args.made.now) in
    let more = count_more runs i r l is in
    let start = c.loop-run.invariant.start in
    record {
      start = omega (arith, more, start);
      told = c.put_run.ensures (gathered (places_of runs) all)
          (subst (λ (n : ℕ). IsMoved all (gathered (places_of runs) all) r.from n r.count) (sym start)
          (moved_run runs i (length c.args.nodes.now + length c.args.made.now) r all l is c.requires.places (omega (arith, old, made, sum))))
          c.loop-run.invariant.told;
    }

pub returns : goal.returns
returns c =
    let runs = c.args.runs.now in
    let all = seen c.args.nodes.now ++ seen c.args.made.now in
    let few = gathered_few (places_of runs) all in
    let whole = ap (λ rs. length (places_of rs)) (take_whole runs c.loop-run.run-index c.loop-run-test.false) in
    let start = c.loop-run.invariant.start in
    told_whole c.loop-run.chunks.items (gathered (places_of runs) all) c.loop-run.start (omega (arith, few, whole, start)) c.loop-run.invariant.told
