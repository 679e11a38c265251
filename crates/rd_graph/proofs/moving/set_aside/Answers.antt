use Rattle.std.proofs.Common.{false, ◌+◌, ◌++◌, ◌∷◌, ◌∙◌, [], ap, arith, get_or, length, sym, take, append_assoc}
use Rattle.std.specs.Prelude.{vec_len}
use Rattle.std.proofs.lemmas.List.{length-append}
use Rattle.rd_graph.specs.Gathered.{gathered}
use Rattle.rd_graph.specs.Runs.{places_aside}
use Rattle.rd_graph.specs.declared.runs.Run.{Run}
use Rattle.rd_graph.proofs.Patches.ListsAt.{get_same}
use Rattle.rd_graph.proofs.LinedUp.RunLines.{gathered_append}
use Rattle.rd_graph.proofs.LinedUp.RunGathering.{aside_more, aside_next, aside_within, kept_on, run_within}
use Rattle.rd_graph.proofs.moving.set_aside.Goals as goal

pub set_run_aside-requires-clause-places : goal.set_run_aside-requires-clause-places
set_run_aside-requires-clause-places g c k w =
    let runs = c.args.runs.now in
    let i = c.loop-run.run-index in
    let r : Run = get_or runs i (record { from = 0; count = 0; aside = false }) in
    let u = run_within runs i (vec_len c.args.old.now + vec_len c.args.made.now) r c.loop-run-test.true (get_same runs i _ r c.loop-run-test.true) c.requires.places k w in
    let old = c.loop-run.invariant.old in
    let made = c.loop-run.invariant.made in
    omega (arith, u, old, made)

pub set_run_aside-requires-clause-room : goal.set_run_aside-requires-clause-room
set_run_aside-requires-clause-room g c =
    let runs = c.args.runs.now in
    let i = c.loop-run.run-index in
    let r : Run = get_or runs i (record { from = 0; count = 0; aside = false }) in
    let u = aside_within runs i r c.loop-run-test.true (get_same runs i _ r c.loop-run-test.true) in
    let filled = c.loop-run.invariant.filled in
    let roomy = c.loop-run.invariant.roomy in
    let room = c.requires.room in
    omega (arith, u, filled, roomy, room)

pub loop-run-preserved : goal.loop-run-preserved
loop-run-preserved g c =
    let inv = c.loop-run.invariant in
    let runs = c.args.runs.now in
    let i = c.loop-run.run-index in
    let r : Run = get_or runs i (record { from = 0; count = 0; aside = false }) in
    let l = c.loop-run-test.true in
    let is = get_same runs i _ r l in
    let n = vec_len c.args.old.now + vec_len c.args.made.now in
    let all = c.args.old.now.items ++ c.args.made.now.items in
    let now = c.loop-run.old.items ++ c.loop-run.made.items in
    let then = c.set_run_aside.new.old.items ++ c.set_run_aside.new.made.items in
    let more = aside_more runs i r l is in
    let count = ap length more in
    let long = length-append (places_aside (take i runs)) (places_aside (r ∷ [])) in
    let len = c.set_run_aside.ensures.len in
    let cap = c.set_run_aside.ensures.room in
    record {
      moved = c.set_run_aside.ensures.moved
          ∙ ap (λ zs. zs ++ gathered (places_aside (r ∷ [])) now) inv.moved
          ∙ append_assoc c.args.aside.now.items (gathered (places_aside (take i runs)) all) (gathered (places_aside (r ∷ [])) now)
          ∙ ap (λ zs. c.args.aside.now.items ++ (gathered (places_aside (take i runs)) all ++ zs)) (aside_next runs i n r all now l is c.requires.places inv.others)
          ∙ ap (λ zs. c.args.aside.now.items ++ zs) (sym (ap (λ ps. gathered ps all) more ∙ gathered_append (places_aside (take i runs)) (places_aside (r ∷ [])) all));
      others = kept_on (places_aside (take i runs)) (places_aside (r ∷ [])) (places_aside (take (i + 1) runs)) all now then more inv.others c.set_run_aside.ensures.others;
      old = c.set_run_aside.ensures.old ∙ inv.old;
      made = c.set_run_aside.ensures.made ∙ inv.made;
      filled = omega (arith, count, long, len, inv.filled);
      roomy = omega (arith, cap, inv.roomy);
    }
