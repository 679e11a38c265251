use Rattle.std.proofs.Common.{false, ◌≡◌, ◌+◌, ◌++◌, ◌∙◌, arith, get_or, length}
use Rattle.std.proofs.lemmas.List.{length-append}
use Rattle.std.specs.Prelude.{vec_len}
use Rattle.rd_graph.specs.Gathered.{gathered}
use Rattle.rd_graph.specs.Runs.{up_from}
use Rattle.rd_graph.specs.declared.runs.Run.{Run}
use Rattle.rd_graph.proofs.Patches.ListsAt.{get_same}
use Rattle.rd_graph.proofs.LinedUp.RunLines.{count_more, count_within, moved_on}
use Rattle.rd_graph.proofs.LinedUp.RunGathering.{gathered_same, in_rest, later_in_rest, later_outside, run_within}
use Rattle.rd_graph.proofs.moving.gather.Goals as goal

pub gather_run-requires-clause-places : goal.gather_run-requires-clause-places
gather_run-requires-clause-places g c k w =
    let runs = c.args.runs.now in
    let i = c.loop-run.run-index in
    let r : Run = get_or runs i (record { from = 0; count = 0; aside = false }) in
    let u = run_within runs i (vec_len c.args.old.now + vec_len c.args.made.now) r c.loop-run-test.true (get_same runs i _ r c.loop-run-test.true) c.requires.places k w in
    let old = c.loop-run.invariant.old in
    let made = c.loop-run.invariant.made in
    omega (arith, u, old, made)

pub gather_run-requires-clause-room : goal.gather_run-requires-clause-room
gather_run-requires-clause-room g c =
    let runs = c.args.runs.now in
    let i = c.loop-run.run-index in
    let r : Run = get_or runs i (record { from = 0; count = 0; aside = false }) in
    let u = count_within runs i r c.loop-run-test.true (get_same runs i _ r c.loop-run-test.true) in
    let filled = c.loop-run.invariant.filled in
    let roomy = c.loop-run.invariant.roomy in
    let room = c.requires.room in
    omega (arith, u, filled, roomy, room)

pub loop-run-preserved : goal.loop-run-preserved
loop-run-preserved g c =
    let inv = c.loop-run.invariant in
    let runs = c.args.runs.now in
    let i = c.loop-run.run-index in
    let r : Run = get_or runs i (record { from = 0; count = 0; aside = false }) in
    let l = c.loop-run-test.true in
    let is = get_same runs i _ r l in
    let n = vec_len c.args.old.now + vec_len c.args.made.now in
    let are = c.requires.places in
    let all = c.args.old.now.items ++ c.args.made.now.items in
    let now = c.loop-run.old.items ++ c.loop-run.made.items in
    let a = c.args.old.now.ok in
    let b = c.args.made.now.ok in
    let d = c.loop-run.old.ok in
    let e = c.loop-run.made.ok in
    let before = length-append c.args.old.now.items c.args.made.now.items in
    let after = length-append c.loop-run.old.items c.loop-run.made.items in
    let size : length now ≡ length all = omega (arith, a.0, b.0, d.0, e.0, before, after, inv.old, inv.made) in
    let count = count_more runs i r l is in
    let len = c.gather_run.ensures.len in
    let more = c.gather_run.ensures.room in
    record {
      moved = moved_on runs i r all c.args.room.now.items c.loop-run.room.items c.gather_run.new.room.items (gathered (up_from r.from r.count) now) l is inv.moved c.gather_run.ensures.moved
          (gathered_same (up_from r.from r.count) now all size (λ k h x. inv.left k (in_rest runs i n r l is are k h) x));
      left = λ k h x. c.gather_run.ensures.others.others k x (later_outside runs i n r l is are k h) ∙ inv.left k (later_in_rest runs i n r l is are k h) x;
      old = c.gather_run.ensures.old ∙ inv.old;
      made = c.gather_run.ensures.made ∙ inv.made;
      filled = omega (arith, count, len, inv.filled);
      roomy = omega (arith, more, inv.roomy);
    }
