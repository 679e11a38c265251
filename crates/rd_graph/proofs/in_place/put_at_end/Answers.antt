use Rattle.std.proofs.Common.{false, ◌≡◌, ◌≤◌, ◌+◌, ◌-◌, ◌<◌, ◌++◌, ◌∷◌, ◌∙◌, [], ap, refl, ℕ, subst, sym, arith, get_or, length, cond, drop, take, append_assoc}
use Rattle.std.proofs.lemmas.List.{length-append, length-drop}
use Rattle.std.specs.Prelude.{vec_len}
use Rattle.std.specs.Vec.Iter.{into_iter_items}
use Rattle.rd_graph.specs.Runs.{RunsRise, places_aside, taken}
use Rattle.rd_graph.specs.Internal.InPlace.{coming, count_coming}
use Rattle.rd_graph.specs.declared.runs.Run.{Run}
use Rattle.rd_graph.proofs.Patches.ListsAt.{get_same}
use Rattle.rd_graph.proofs.Patches.Marks.{take_whole}
use Rattle.rd_graph.proofs.LinedUp.InPlace.{coming_more, coming_same, counts_more, late_comer, no_stayer, stayer}
use Rattle.rd_graph.proofs.LinedUp.RunLines.{left_of, passed_to, run_of_made, then_aside, then_made, then_old}
use Rattle.rd_graph.proofs.LinedUp.RunGathering.{aside_more, aside_none, aside_within, one_long, taken_aside, taken_plain}
use Rattle.rd_graph.proofs.in_place.put_at_end.Goals as goal

pub move_run-requires-clause-rest : goal.move_run-requires-clause-rest
move_run-requires-clause-rest g c =
    let runs = c.args.runs.now in
    let i = c.loop-run.run-index in
    let r : Run = get_or runs i (record { from = 0; count = 0; aside = false }) in
    let l = c.loop-run-test.true in
    let is = get_same runs i _ r l in
    let inv = c.loop-run.invariant in
    let made = c.args.made.items in
    let aside = c.args.aside.items in
    let n = c.args.old in
    let m = vec_len c.args.made in
    let before = length (places_aside (take i runs)) in
    let set = ap length (aside_more runs i r l is) in
    let sum = length-append (places_aside (take i runs)) (places_aside (r ∷ [])) in
    let count = (counts_more n runs i r l is).1 in
    let within = aside_within runs i r l is in
    let one = one_long r c.if-run.true in
    let left = ap length inv.aside_left ∙ length-drop before aside in
    let size = c.args.aside.ok in
    let all = c.requires.aside in
    let rest : r.count ≤ length (into_iter_items c.loop-run.aside_rest) = omega (arith, within, one, left, size.0, all) in
    rest

pub move_run-requires-clause-room : goal.move_run-requires-clause-room
move_run-requires-clause-room g c =
    let runs = c.args.runs.now in
    let i = c.loop-run.run-index in
    let r : Run = get_or runs i (record { from = 0; count = 0; aside = false }) in
    let l = c.loop-run-test.true in
    let is = get_same runs i _ r l in
    let inv = c.loop-run.invariant in
    let made = c.args.made.items in
    let aside = c.args.aside.items in
    let n = c.args.old in
    let m = vec_len c.args.made in
    let before = length (places_aside (take i runs)) in
    let set = ap length (aside_more runs i r l is) in
    let sum = length-append (places_aside (take i runs)) (places_aside (r ∷ [])) in
    let count = (counts_more n runs i r l is).1 in
    let within = aside_within runs i r l is in
    let one = one_long r c.if-run.true in
    let left = ap length inv.aside_left ∙ length-drop before aside in
    let size = c.args.aside.ok in
    let all = c.requires.aside in
    let rest : r.count ≤ length (into_iter_items c.loop-run.aside_rest) = omega (arith, within, one, left, size.0, all) in
    let room = inv.room in
    omega (arith, rest, room)

pub loop-run-preserved-then-run : goal.loop-run-preserved-then-run
loop-run-preserved-then-run g c =
    let runs = c.args.runs.now in
    let i = c.loop-run.run-index in
    let r : Run = get_or runs i (record { from = 0; count = 0; aside = false }) in
    let l = c.loop-run-test.true in
    let is = get_same runs i _ r l in
    let inv = c.loop-run.invariant in
    let made = c.args.made.items in
    let aside = c.args.aside.items in
    let n = c.args.old in
    let m = vec_len c.args.made in
    let before = length (places_aside (take i runs)) in
    let set = ap length (aside_more runs i r l is) in
    let sum = length-append (places_aside (take i runs)) (places_aside (r ∷ [])) in
    let count = (counts_more n runs i r l is).1 in
    let within = aside_within runs i r l is in
    let one = one_long r c.if-run.true in
    let left = ap length inv.aside_left ∙ length-drop before aside in
    let size = c.args.aside.ok in
    let all = c.requires.aside in
    let rest : r.count ≤ length (into_iter_items c.loop-run.aside_rest) = omega (arith, within, one, left, size.0, all) in
    let f = no_stayer n r c.if-run.true in
    let ps = take r.count (into_iter_items c.loop-run.aside_rest) in
    let len = c.move_run.ensures.len in
    let more = c.move_run.ensures.room in
    let less = ap length c.move_run.ensures.left ∙ length-drop r.count (into_iter_items c.loop-run.aside_rest) in
    let one_count = ap (λ b. cond b 0 r.count) f in
    let room = inv.room in
    let was = inv.len in
    record {
      put = λ xs e.
          let all = xs ++ made in
          let p : ps ≡ taken r all (drop before aside) = ap (take r.count) inv.aside_left ∙ sym (taken_aside r all (drop before aside) c.if-run.true) in
          c.move_run.ensures.moved ∙ ap (λ zs. zs ++ ps) (inv.put xs e) ∙ append_assoc c.args.elements.now.items (coming n (take i runs) all aside) ps
          ∙ ap (λ zs. c.args.elements.now.items ++ zs) (ap (λ zs. coming n (take i runs) all aside ++ zs) p ∙ sym (coming_more n runs i r l is all aside f));
      made_left = inv.made_left;
      aside_left = passed_to aside (into_iter_items c.loop-run.aside_rest) (into_iter_items c.move_run.new.rest) before r.count (length (places_aside (take (i + 1) runs))) inv.aside_left c.move_run.ensures.left (omega (arith, set, sum, one));
      rises = (inv.rises.0, then_aside runs i r l is n m inv.rises.0 c.loop-run.next_made c.if-run.true inv.rises.1);
      len = omega (arith, len, was, count, one_count);
      room = omega (arith, len, more, less, rest, room);
    }

pub loop-run-preserved-then-run-old : goal.loop-run-preserved-then-run-old
loop-run-preserved-then-run-old g c =
    let runs = c.args.runs.now in
    let i = c.loop-run.run-index in
    let r : Run = get_or runs i (record { from = 0; count = 0; aside = false }) in
    let l = c.loop-run-test.true in
    let is = get_same runs i _ r l in
    let inv = c.loop-run.invariant in
    let made = c.args.made.items in
    let aside = c.args.aside.items in
    let n = c.args.old in
    let m = vec_len c.args.made in
    let before = length (places_aside (take i runs)) in
    let set = ap length (aside_more runs i r l is) in
    let sum = length-append (places_aside (take i runs)) (places_aside (r ∷ [])) in
    let count = (counts_more n runs i r l is).1 in
    let none = ap length (aside_none r c.if-run.false) in
    let low : r.from < n = c.if-run-old.true in
    let facts = then_old runs i r l is n m inv.rises.0 c.loop-run.next_made c.if-run.false low inv.rises.1 in
    let t = stayer n r c.if-run.false low in
    let one_count = ap (λ b. cond b 0 r.count) t in
    let was = inv.len in
    record {
      put = λ xs e. inv.put xs e ∙ ap (λ zs. c.args.elements.now.items ++ zs) (sym (coming_same n runs i r l is (xs ++ made) aside t));
      made_left = inv.made_left;
      aside_left = inv.aside_left ∙ ap (λ k. drop k aside) (let e : before ≡ length (places_aside (take (i + 1) runs)) = omega (arith, set, sum, none) in e);
      rises = (r.from + r.count, facts.2);
      len = omega (arith, was, count, one_count);
      room = inv.room;
    }

pub loop-run-preserved : goal.loop-run-preserved
loop-run-preserved g c =
    let runs = c.args.runs.now in
    let i = c.loop-run.run-index in
    let r : Run = get_or runs i (record { from = 0; count = 0; aside = false }) in
    let l = c.loop-run-test.true in
    let is = get_same runs i _ r l in
    let inv = c.loop-run.invariant in
    let made = c.args.made.items in
    let aside = c.args.aside.items in
    let n = c.args.old in
    let m = vec_len c.args.made in
    let before = length (places_aside (take i runs)) in
    let set = ap length (aside_more runs i r l is) in
    let sum = length-append (places_aside (take i runs)) (places_aside (r ∷ [])) in
    let count = (counts_more n runs i r l is).1 in
    let made_long : length made ≡ m = sym c.args.made.ok.0 in
    let late = c.if-run-old.false in
    let facts = then_made runs i r l is n m inv.rises.0 c.loop-run.next_made c.if-run.false late inv.rises.1 in
    let far = facts.0 in
    let within = facts.1 in
    let from = r.from - n in
    let behind = drop (from - c.loop-run.next_made) (into_iter_items c.loop-run.made_rest) in
    let rest_is : behind ≡ drop from made = passed_to made (into_iter_items c.loop-run.made_rest) behind c.loop-run.next_made (from - c.loop-run.next_made) from inv.made_left refl (omega (arith, far)) in
    let left = left_of made (into_iter_items c.loop-run.made_rest) behind c.loop-run.next_made from m made_long (omega (arith, far)) inv.made_left refl in
    let rest : r.count ≤ length behind = omega (arith, left, within, late) in
    let fewer = ap length inv.made_left ∙ length-drop c.loop-run.next_made made in
    let none = ap length (aside_none r c.if-run.false) in
    let f = late_comer n r c.if-run.false late in
    let ps = take r.count behind in
    let len = c.move_from-next_made.ensures.len in
    let more = c.move_from-next_made.ensures.room in
    let less = ap length c.move_from-next_made.ensures.left ∙ length-drop r.count behind in
    let one_count = ap (λ b. cond b 0 r.count) f in
    let room = inv.room in
    let was = inv.len in
    record {
      put = λ xs e.
          let all = xs ++ made in
          let p : ps ≡ taken r all (drop before aside) = run_of_made n m r.count r.from from xs made behind e made_long (omega (arith, late)) within rest_is ∙ sym (taken_plain r all (drop before aside) c.if-run.false) in
          c.move_from-next_made.ensures.moved ∙ ap (λ zs. zs ++ ps) (inv.put xs e) ∙ append_assoc c.args.elements.now.items (coming n (take i runs) all aside) ps
          ∙ ap (λ zs. c.args.elements.now.items ++ zs) (ap (λ zs. coming n (take i runs) all aside ++ zs) p ∙ sym (coming_more n runs i r l is all aside f));
      made_left = passed_to made behind _ from r.count c.move_from-next_made.result rest_is c.move_from-next_made.ensures.left c.move_from-next_made.ensures.next;
      aside_left = inv.aside_left ∙ ap (λ k. drop k aside) (let e : before ≡ length (places_aside (take (i + 1) runs)) = omega (arith, set, sum, none) in e);
      rises = (inv.rises.0, subst (λ (k : ℕ). RunsRise n m inv.rises.0 k (drop (i + 1) runs)) (sym c.move_from-next_made.ensures.next) facts.2);
      len = omega (arith, len, was, count, one_count);
      room = omega (arith, len, more, less, rest, left, fewer, far, made_long, room);
    }

pub returns-clause-put : goal.returns-clause-put
returns-clause-put g c =
    let runs = c.args.runs.now in
    let all = take_whole runs c.loop-run.run-index c.loop-run-test.false in
    λ xs e. c.loop-run.invariant.put xs e ∙ ap (λ rs. c.args.elements.now.items ++ coming c.args.old rs (xs ++ c.args.made.items) c.args.aside.items) all

pub returns-clause-len : goal.returns-clause-len
returns-clause-len g c =
    let runs = c.args.runs.now in
    let all = take_whole runs c.loop-run.run-index c.loop-run-test.false in
    c.loop-run.invariant.len ∙ ap (λ rs. vec_len c.args.elements.now + count_coming c.args.old rs) all

pub move_from-next_made-requires-clause-next : goal.move_from-next_made-requires-clause-next
move_from-next_made-requires-clause-next g c =
    let runs = c.args.runs.now in
    let i = c.loop-run.run-index in
    let r : Run = get_or runs i (record { from = 0; count = 0; aside = false }) in
    let l = c.loop-run-test.true in
    let is = get_same runs i _ r l in
    let inv = c.loop-run.invariant in
    let n = c.args.old in
    let late = c.if-run-old.false in
    let facts = then_made runs i r l is n (vec_len c.args.made) inv.rises.0 c.loop-run.next_made c.if-run.false late inv.rises.1 in
    let far = facts.0 in
    let within = facts.1 in
    let left = ap length inv.made_left ∙ length-drop c.loop-run.next_made c.args.made.items in
    let size = c.args.made.ok in
    omega (arith, far)

pub move_from-next_made-requires-clause-rest : goal.move_from-next_made-requires-clause-rest
move_from-next_made-requires-clause-rest g c =
    let runs = c.args.runs.now in
    let i = c.loop-run.run-index in
    let r : Run = get_or runs i (record { from = 0; count = 0; aside = false }) in
    let l = c.loop-run-test.true in
    let is = get_same runs i _ r l in
    let inv = c.loop-run.invariant in
    let n = c.args.old in
    let late = c.if-run-old.false in
    let facts = then_made runs i r l is n (vec_len c.args.made) inv.rises.0 c.loop-run.next_made c.if-run.false late inv.rises.1 in
    let far = facts.0 in
    let within = facts.1 in
    let left = ap length inv.made_left ∙ length-drop c.loop-run.next_made c.args.made.items in
    let size = c.args.made.ok in
    omega (arith, far, within, late, left, size.0)

pub move_from-next_made-requires-clause-room : goal.move_from-next_made-requires-clause-room
move_from-next_made-requires-clause-room g c =
    let runs = c.args.runs.now in
    let i = c.loop-run.run-index in
    let r : Run = get_or runs i (record { from = 0; count = 0; aside = false }) in
    let l = c.loop-run-test.true in
    let is = get_same runs i _ r l in
    let inv = c.loop-run.invariant in
    let n = c.args.old in
    let late = c.if-run-old.false in
    let facts = then_made runs i r l is n (vec_len c.args.made) inv.rises.0 c.loop-run.next_made c.if-run.false late inv.rises.1 in
    let far = facts.0 in
    let within = facts.1 in
    let left = ap length inv.made_left ∙ length-drop c.loop-run.next_made c.args.made.items in
    let size = c.args.made.ok in
    let room = inv.room in
    omega (arith, far, within, late, left, size.0, room)

pub move_from-next_made-requires-clause-fits : goal.move_from-next_made-requires-clause-fits
move_from-next_made-requires-clause-fits g c =
    let runs = c.args.runs.now in
    let i = c.loop-run.run-index in
    let r : Run = get_or runs i (record { from = 0; count = 0; aside = false }) in
    let l = c.loop-run-test.true in
    let is = get_same runs i _ r l in
    let inv = c.loop-run.invariant in
    let n = c.args.old in
    let late = c.if-run-old.false in
    let facts = then_made runs i r l is n (vec_len c.args.made) inv.rises.0 c.loop-run.next_made c.if-run.false late inv.rises.1 in
    let far = facts.0 in
    let within = facts.1 in
    let left = ap length inv.made_left ∙ length-drop c.loop-run.next_made c.args.made.items in
    let size = c.args.made.ok in
    omega (arith, within, late)
