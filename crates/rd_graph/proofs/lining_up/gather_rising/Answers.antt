use Rattle.std.proofs.Common.{false, ℕ, ◌≡◌, ◌+◌, ◌-◌, ◌∙◌, ◌++◌, ◌∷◌, [], ap, refl, subst, sym, arith, get_or, length, drop, take}
use Rattle.std.proofs.lemmas.List.{length-append, length-drop}
use Rattle.std.specs.Prelude.{vec_len}
use Rattle.std.specs.Vec.Iter.{into_iter_items}
use Rattle.rd_graph.specs.Runs.{RunsRise, places_aside}
use Rattle.rd_graph.specs.declared.runs.Run.{Run}
use Rattle.rd_graph.proofs.Patches.ListsAt.{get_same}
use Rattle.rd_graph.proofs.LinedUp.RunLines.{count_more, count_within, passed_to, run_of_made, run_of_old, then_aside, then_made, then_old}
use Rattle.rd_graph.proofs.LinedUp.RunGathering.{aside_more, aside_none, aside_within, one_long, taken_aside, taken_plain, woven_on}
use Rattle.rd_graph.proofs.lining_up.gather_rising.Goals as goal

pub move_run-requires-clause-rest : goal.move_run-requires-clause-rest
move_run-requires-clause-rest g c =
    let runs = c.args.runs.now in
    let i = c.loop-run.run-index in
    let r : Run = get_or runs i (record { from = 0; count = 0; aside = false }) in
    let l = c.loop-run-test.true in
    let is = get_same runs i _ r l in
    let within = aside_within runs i r l is in
    let one = one_long r c.if-run.true in
    let left = ap length c.loop-run.invariant.aside_left ∙ length-drop (length (places_aside (take i runs))) c.args.aside.items in
    let size = c.args.aside.ok in
    let all = c.requires.aside in
    omega (arith, within, one, left, size.0, all)

pub move_run-requires-clause-room : goal.move_run-requires-clause-room
move_run-requires-clause-room g c =
    let runs = c.args.runs.now in
    let i = c.loop-run.run-index in
    let r : Run = get_or runs i (record { from = 0; count = 0; aside = false }) in
    let l = c.loop-run-test.true in
    let is = get_same runs i _ r l in
    let u = count_within runs i r l is in
    let filled = c.loop-run.invariant.filled in
    let roomy = c.loop-run.invariant.roomy in
    let room = c.requires.room in
    omega (arith, u, filled, roomy, room)

pub loop-run-preserved-then-run : goal.loop-run-preserved-then-run
loop-run-preserved-then-run g c =
    let runs = c.args.runs.now in
    let i = c.loop-run.run-index in
    let r : Run = get_or runs i (record { from = 0; count = 0; aside = false }) in
    let l = c.loop-run-test.true in
    let is = get_same runs i _ r l in
    let old = c.args.old.items in
    let made = c.args.made.items in
    let aside = c.args.aside.items in
    let end = c.len-end.result in
    let m = vec_len c.args.made in
    let inv = c.loop-run.invariant in
    let count = count_more runs i r l is in
    let set = ap length (aside_more runs i r l is) in
    let sum = length-append (places_aside (take i runs)) (places_aside (r ∷ [])) in
    let long : length old ≡ end = sym c.args.old.ok.0 ∙ sym c.len-end.ensures in
    let made_long : length made ≡ m = sym c.args.made.ok.0 in
    let one = one_long r c.if-run.true in
    let len = c.move_run.ensures.len in
    let more = c.move_run.ensures.room in
    record {
      moved = woven_on runs i r (old ++ made) aside c.args.room.now.items c.loop-run.room.items c.move_run.new.room.items (take r.count (into_iter_items c.loop-run.aside_rest)) l is inv.moved c.move_run.ensures.moved
          (ap (take r.count) inv.aside_left ∙ sym (taken_aside r (old ++ made) (drop (length (places_aside (take i runs))) aside) c.if-run.true));
      old_left = inv.old_left;
      made_left = inv.made_left;
      aside_left = passed_to aside (into_iter_items c.loop-run.aside_rest) (into_iter_items c.move_run.new.rest) (length (places_aside (take i runs))) r.count (length (places_aside (take (i + 1) runs))) inv.aside_left c.move_run.ensures.left (omega (arith, set, sum, one));
      rises = then_aside runs i r l is end m c.loop-run.next_old c.loop-run.next_made c.if-run.true inv.rises;
      filled = omega (arith, count, len, inv.filled);
      roomy = omega (arith, more, inv.roomy);
    }

pub loop-run-preserved-then-run-end : goal.loop-run-preserved-then-run-end
loop-run-preserved-then-run-end g c =
    let runs = c.args.runs.now in
    let i = c.loop-run.run-index in
    let r : Run = get_or runs i (record { from = 0; count = 0; aside = false }) in
    let l = c.loop-run-test.true in
    let is = get_same runs i _ r l in
    let old = c.args.old.items in
    let made = c.args.made.items in
    let aside = c.args.aside.items in
    let end = c.len-end.result in
    let m = vec_len c.args.made in
    let inv = c.loop-run.invariant in
    let count = count_more runs i r l is in
    let set = ap length (aside_more runs i r l is) in
    let sum = length-append (places_aside (take i runs)) (places_aside (r ∷ [])) in
    let long : length old ≡ end = sym c.args.old.ok.0 ∙ sym c.len-end.ensures in
    let made_long : length made ≡ m = sym c.args.made.ok.0 in
    let none = ap length (aside_none r c.if-run.false) in
    let facts = then_old runs i r l is end m c.loop-run.next_old c.loop-run.next_made c.if-run.false c.if-run-end.true inv.rises in
    let far = facts.0 in
    let rest = drop (r.from - c.loop-run.next_old) (into_iter_items c.loop-run.old_rest) in
    let rest_is : rest ≡ drop r.from old = passed_to old (into_iter_items c.loop-run.old_rest) rest c.loop-run.next_old (r.from - c.loop-run.next_old) r.from inv.old_left refl (omega (arith, far)) in
    let len = c.move_from-next_old.ensures.len in
    let more = c.move_from-next_old.ensures.room in
    record {
      moved = woven_on runs i r (old ++ made) aside c.args.room.now.items c.loop-run.room.items c.move_from-next_old.new.room.items (take r.count rest) l is inv.moved c.move_from-next_old.ensures.moved
          (run_of_old end r.count r.from old made rest long facts.1 rest_is ∙ sym (taken_plain r (old ++ made) (drop (length (places_aside (take i runs))) aside) c.if-run.false));
      old_left = passed_to old rest _ r.from r.count c.move_from-next_old.result rest_is c.move_from-next_old.ensures.left c.move_from-next_old.ensures.next;
      made_left = inv.made_left;
      aside_left = inv.aside_left ∙ ap (λ n. drop n aside) (let e : length (places_aside (take i runs)) ≡ length (places_aside (take (i + 1) runs)) = omega (arith, set, sum, none) in e);
      rises = subst (λ (k : ℕ). RunsRise end m k c.loop-run.next_made (drop (i + 1) runs)) (sym c.move_from-next_old.ensures.next) facts.2;
      filled = omega (arith, count, len, inv.filled);
      roomy = omega (arith, more, inv.roomy);
    }

pub loop-run-preserved : goal.loop-run-preserved
loop-run-preserved g c =
    let runs = c.args.runs.now in
    let i = c.loop-run.run-index in
    let r : Run = get_or runs i (record { from = 0; count = 0; aside = false }) in
    let l = c.loop-run-test.true in
    let is = get_same runs i _ r l in
    let old = c.args.old.items in
    let made = c.args.made.items in
    let aside = c.args.aside.items in
    let end = c.len-end.result in
    let m = vec_len c.args.made in
    let inv = c.loop-run.invariant in
    let count = count_more runs i r l is in
    let set = ap length (aside_more runs i r l is) in
    let sum = length-append (places_aside (take i runs)) (places_aside (r ∷ [])) in
    let long : length old ≡ end = sym c.args.old.ok.0 ∙ sym c.len-end.ensures in
    let made_long : length made ≡ m = sym c.args.made.ok.0 in
    let none = ap length (aside_none r c.if-run.false) in
    let facts = then_made runs i r l is end m c.loop-run.next_old c.loop-run.next_made c.if-run.false c.if-run-end.false inv.rises in
    let far = facts.0 in
    let above = c.if-run-end.false in
    let place = r.from - end in
    let rest = drop (place - c.loop-run.next_made) (into_iter_items c.loop-run.made_rest) in
    let rest_is : rest ≡ drop place made = passed_to made (into_iter_items c.loop-run.made_rest) rest c.loop-run.next_made (place - c.loop-run.next_made) place inv.made_left refl (omega (arith, far)) in
    let len = c.move_from-next_made.ensures.len in
    let more = c.move_from-next_made.ensures.room in
    record {
      moved = woven_on runs i r (old ++ made) aside c.args.room.now.items c.loop-run.room.items c.move_from-next_made.new.room.items (take r.count rest) l is inv.moved c.move_from-next_made.ensures.moved
          (run_of_made end m r.count r.from place old made rest long made_long (omega (arith, above)) facts.1 rest_is ∙ sym (taken_plain r (old ++ made) (drop (length (places_aside (take i runs))) aside) c.if-run.false));
      old_left = inv.old_left;
      made_left = passed_to made rest _ place r.count c.move_from-next_made.result rest_is c.move_from-next_made.ensures.left c.move_from-next_made.ensures.next;
      aside_left = inv.aside_left ∙ ap (λ n. drop n aside) (let e : length (places_aside (take i runs)) ≡ length (places_aside (take (i + 1) runs)) = omega (arith, set, sum, none) in e);
      rises = subst (λ (k : ℕ). RunsRise end m c.loop-run.next_old k (drop (i + 1) runs)) (sym c.move_from-next_made.ensures.next) facts.2;
      filled = omega (arith, count, len, inv.filled);
      roomy = omega (arith, more, inv.roomy);
    }

pub move_from-next_old-requires-clause-room : goal.move_from-next_old-requires-clause-room
move_from-next_old-requires-clause-room g c =
    let runs = c.args.runs.now in
    let i = c.loop-run.run-index in
    let r : Run = get_or runs i (record { from = 0; count = 0; aside = false }) in
    let l = c.loop-run-test.true in
    let is = get_same runs i _ r l in
    let u = count_within runs i r l is in
    let filled = c.loop-run.invariant.filled in
    let roomy = c.loop-run.invariant.roomy in
    let room = c.requires.room in
    omega (arith, u, filled, roomy, room)

pub move_from-next_made-requires-clause-room : goal.move_from-next_made-requires-clause-room
move_from-next_made-requires-clause-room g c =
    let runs = c.args.runs.now in
    let i = c.loop-run.run-index in
    let r : Run = get_or runs i (record { from = 0; count = 0; aside = false }) in
    let l = c.loop-run-test.true in
    let is = get_same runs i _ r l in
    let u = count_within runs i r l is in
    let filled = c.loop-run.invariant.filled in
    let roomy = c.loop-run.invariant.roomy in
    let room = c.requires.room in
    omega (arith, u, filled, roomy, room)

pub move_from-next_old-requires-clause-next : goal.move_from-next_old-requires-clause-next
move_from-next_old-requires-clause-next g c =
    let runs = c.args.runs.now in
    let i = c.loop-run.run-index in
    let r : Run = get_or runs i (record { from = 0; count = 0; aside = false }) in
    let l = c.loop-run-test.true in
    let is = get_same runs i _ r l in
    let inv = c.loop-run.invariant in
    let end = c.len-end.result in
    let facts = then_old runs i r l is end (vec_len c.args.made) c.loop-run.next_old c.loop-run.next_made c.if-run.false c.if-run-end.true inv.rises in
    let far = facts.0 in
    let within = facts.1 in
    omega (arith, far)

pub move_from-next_old-requires-clause-rest : goal.move_from-next_old-requires-clause-rest
move_from-next_old-requires-clause-rest g c =
    let runs = c.args.runs.now in
    let i = c.loop-run.run-index in
    let r : Run = get_or runs i (record { from = 0; count = 0; aside = false }) in
    let l = c.loop-run-test.true in
    let is = get_same runs i _ r l in
    let inv = c.loop-run.invariant in
    let end = c.len-end.result in
    let facts = then_old runs i r l is end (vec_len c.args.made) c.loop-run.next_old c.loop-run.next_made c.if-run.false c.if-run-end.true inv.rises in
    let far = facts.0 in
    let within = facts.1 in
    let left = ap length inv.old_left ∙ length-drop c.loop-run.next_old c.args.old.items in
    let size = c.args.old.ok in
    let long = c.len-end.ensures in
    omega (arith, far, within, left, size.0, long)

pub move_from-next_old-requires-clause-fits : goal.move_from-next_old-requires-clause-fits
move_from-next_old-requires-clause-fits g c =
    let runs = c.args.runs.now in
    let i = c.loop-run.run-index in
    let r : Run = get_or runs i (record { from = 0; count = 0; aside = false }) in
    let l = c.loop-run-test.true in
    let is = get_same runs i _ r l in
    let inv = c.loop-run.invariant in
    let end = c.len-end.result in
    let facts = then_old runs i r l is end (vec_len c.args.made) c.loop-run.next_old c.loop-run.next_made c.if-run.false c.if-run-end.true inv.rises in
    let far = facts.0 in
    let within = facts.1 in
    omega (arith, within)

pub move_from-next_made-requires-clause-next : goal.move_from-next_made-requires-clause-next
move_from-next_made-requires-clause-next g c =
    let runs = c.args.runs.now in
    let i = c.loop-run.run-index in
    let r : Run = get_or runs i (record { from = 0; count = 0; aside = false }) in
    let l = c.loop-run-test.true in
    let is = get_same runs i _ r l in
    let inv = c.loop-run.invariant in
    let end = c.len-end.result in
    let facts = then_made runs i r l is end (vec_len c.args.made) c.loop-run.next_old c.loop-run.next_made c.if-run.false c.if-run-end.false inv.rises in
    let far = facts.0 in
    let within = facts.1 in
    let above = c.if-run-end.false in
    omega (arith, far)

pub move_from-next_made-requires-clause-rest : goal.move_from-next_made-requires-clause-rest
move_from-next_made-requires-clause-rest g c =
    let runs = c.args.runs.now in
    let i = c.loop-run.run-index in
    let r : Run = get_or runs i (record { from = 0; count = 0; aside = false }) in
    let l = c.loop-run-test.true in
    let is = get_same runs i _ r l in
    let inv = c.loop-run.invariant in
    let end = c.len-end.result in
    let facts = then_made runs i r l is end (vec_len c.args.made) c.loop-run.next_old c.loop-run.next_made c.if-run.false c.if-run-end.false inv.rises in
    let far = facts.0 in
    let within = facts.1 in
    let above = c.if-run-end.false in
    let left = ap length inv.made_left ∙ length-drop c.loop-run.next_made c.args.made.items in
    let size = c.args.made.ok in
    omega (arith, far, within, above, left, size.0)

pub move_from-next_made-requires-clause-fits : goal.move_from-next_made-requires-clause-fits
move_from-next_made-requires-clause-fits g c =
    let runs = c.args.runs.now in
    let i = c.loop-run.run-index in
    let r : Run = get_or runs i (record { from = 0; count = 0; aside = false }) in
    let l = c.loop-run-test.true in
    let is = get_same runs i _ r l in
    let inv = c.loop-run.invariant in
    let end = c.len-end.result in
    let facts = then_made runs i r l is end (vec_len c.args.made) c.loop-run.next_old c.loop-run.next_made c.if-run.false c.if-run-end.false inv.rises in
    let far = facts.0 in
    let within = facts.1 in
    let above = c.if-run-end.false in
    omega (arith, within, above)
