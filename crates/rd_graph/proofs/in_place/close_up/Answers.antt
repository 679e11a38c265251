use Rattle.std.proofs.Common.{false, refl, ◌≡◌, ◌≤◌, ◌+◌, ◌-◌, ◌++◌, ◌∙◌, List, ap, arith, cond, drop, get_or, length, subst, sym, take}
use Rattle.std.proofs.lemmas.List.{length-take-le}
use Rattle.rd_graph.specs.Internal.InPlace.{IsClosed, count_staying, staying}
use Rattle.rd_graph.specs.declared.runs.Run.{Run}
use Rattle.rd_graph.proofs.Patches.ListsAt.{get_same}
use Rattle.rd_graph.proofs.Patches.Marks.{take_whole}
use Rattle.rd_graph.proofs.LinedUp.InPlace.{closed_bounds, closed_next, closed_none, closed_on, closed_past, closed_window, counts_more, counts_within, cut_closed}
use Rattle.rd_graph.proofs.in_place.close_up.Goals as goal

pub loop-i-init : goal.loop-i-init
loop-i-init g c = record {
  place = omega arith;
  closed = λ part was rest e a w. closed_none c.args.old c.args.runs.now c.args.first part was rest a w c.args.elements.now.items c.requires.rise c.requires.first e;
  len = refl;
  room = refl;
}

pub overflow_add-place : goal.overflow_add-place
overflow_add-place g c =
    let runs = c.args.runs.now in
    let n = c.args.old in
    let first = c.args.first in
    let i = c.loop-i.i in
    let r : Run = get_or runs i (record { from = 0; count = 0; aside = false }) in
    let l = c.loop-i-test.true in
    let is = get_same runs i _ r l in
    let inv = c.loop-i.invariant in
    let more = counts_more n runs i r l is in
    let stays_more = more.0 in
    let comes_more = more.1 in
    let within = counts_within n runs i r l is in
    let some_stay = within.0 in
    let some_come = within.1 in
    let t = sym c.stays.ensures ∙ c.if-not-stays.true in
    let a = ap (λ b. cond b r.count 0) t in
    let b = ap (λ b. cond b 0 r.count) t in
    let place = inv.place in
    let few = c.requires.few in
    omega (arith, stays_more, comes_more, some_stay, some_come, a, b, place, few)

pub loop-i-preserved-then-not-stays : goal.loop-i-preserved-then-not-stays
loop-i-preserved-then-not-stays g c =
    let runs = c.args.runs.now in
    let n = c.args.old in
    let first = c.args.first in
    let i = c.loop-i.i in
    let r : Run = get_or runs i (record { from = 0; count = 0; aside = false }) in
    let l = c.loop-i-test.true in
    let is = get_same runs i _ r l in
    let inv = c.loop-i.invariant in
    let more = counts_more n runs i r l is in
    let stays_more = more.0 in
    let comes_more = more.1 in
    let t = sym c.stays.ensures ∙ c.if-not-stays.true in
    let a = ap (λ b. cond b r.count 0) t in
    let b = ap (λ b. cond b 0 r.count) t in
    let place = inv.place in
    record {
      place = omega (arith, place, stays_more, comes_more, a, b);
      closed = λ part was rest e h w. closed_past n runs first part was rest h w i c.loop-i.stay r c.loop-i.elements.items l is (inv.closed part was rest e h w) t;
      len = inv.len;
      room = inv.room;
    }

pub returns-then-run-place-clause-stay : goal.returns-then-run-place-clause-stay
returns-then-run-place-clause-stay g c =
    let runs = c.args.runs.now in
    let n = c.args.old in
    let first = c.args.first in
    let i = c.loop-i.i in
    let inv = c.loop-i.invariant in
    let was = c.args.elements.now.items in
    let low = c.requires.old in
    let size = c.args.elements.now.ok.0 in
    let high : n ≤ length was = omega (arith, low, size) in
    let one = c.requires.first in
    let mine = cut_closed n runs i c.loop-i.stay first was c.loop-i.elements.items one high inv.closed in
    let ahead : length (take first was) ≡ first = length-take-le first was (omega (arith, one, high)) in
    let whole : length (take n was) ≡ n = length-take-le n was high in
    mine.count

pub returns-then-run-place-clause-closed : goal.returns-then-run-place-clause-closed
returns-then-run-place-clause-closed g c = λ part was rest made e h w.
    let runs = c.args.runs.now in
    let n = c.args.old in
    let first = c.args.first in
    let i = c.loop-i.i in
    let r : Run = get_or runs i (record { from = 0; count = 0; aside = false }) in
    let l = c.loop-i-test.true in
    let is = get_same runs i _ r l in
    let inv = c.loop-i.invariant in
    let t = sym c.stays.ensures ∙ c.if-not-stays.false in
    let all = inv.closed part was rest e h w in
    let at = c.if-run-place.true in
    let next = closed_next n runs first part was rest h w i c.loop-i.stay r c.loop-i.elements.items l is all t in
    let high = (closed_bounds n runs first part was rest h w i c.loop-i.stay r c.loop-i.elements.items l is all t).1 in
    closed_window n runs first part was rest h w i c.loop-i.stay c.loop-i.place c.loop-i.elements.items all (omega (arith, next, at)) (omega (arith, high, at)) made

pub overflow_add-run : goal.overflow_add-run
overflow_add-run g c =
    let runs = c.args.runs.now in
    let n = c.args.old in
    let first = c.args.first in
    let i = c.loop-i.i in
    let r : Run = get_or runs i (record { from = 0; count = 0; aside = false }) in
    let l = c.loop-i-test.true in
    let is = get_same runs i _ r l in
    let inv = c.loop-i.invariant in
    let was = c.args.elements.now.items in
    let low = c.requires.old in
    let size = c.args.elements.now.ok.0 in
    let high : n ≤ length was = omega (arith, low, size) in
    let one = c.requires.first in
    let mine = cut_closed n runs i c.loop-i.stay first was c.loop-i.elements.items one high inv.closed in
    let ahead : length (take first was) ≡ first = length-take-le first was (omega (arith, one, high)) in
    let whole : length (take n was) ≡ n = length-take-le n was high in
    let t = sym c.stays.ensures ∙ c.if-not-stays.false in
    let high = (closed_bounds n runs first (take first was) (take n was) (drop n was) ahead whole i c.loop-i.stay r c.loop-i.elements.items l is mine t).1 in
    let few = c.ranges.old.fits in
    omega (arith, high, few)

pub turn_in-requires-clause-first : goal.turn_in-requires-clause-first
turn_in-requires-clause-first g c =
    let runs = c.args.runs.now in
    let n = c.args.old in
    let first = c.args.first in
    let i = c.loop-i.i in
    let r : Run = get_or runs i (record { from = 0; count = 0; aside = false }) in
    let l = c.loop-i-test.true in
    let is = get_same runs i _ r l in
    let inv = c.loop-i.invariant in
    let was = c.args.elements.now.items in
    let low = c.requires.old in
    let size = c.args.elements.now.ok.0 in
    let high : n ≤ length was = omega (arith, low, size) in
    let one = c.requires.first in
    let mine = cut_closed n runs i c.loop-i.stay first was c.loop-i.elements.items one high inv.closed in
    let ahead : length (take first was) ≡ first = length-take-le first was (omega (arith, one, high)) in
    let whole : length (take n was) ≡ n = length-take-le n was high in
    let t = sym c.stays.ensures ∙ c.if-not-stays.false in
    (closed_bounds n runs first (take first was) (take n was) (drop n was) ahead whole i c.loop-i.stay r c.loop-i.elements.items l is mine t).0

pub turn_in-requires-clause-within : goal.turn_in-requires-clause-within
turn_in-requires-clause-within g c =
    let runs = c.args.runs.now in
    let n = c.args.old in
    let first = c.args.first in
    let i = c.loop-i.i in
    let r : Run = get_or runs i (record { from = 0; count = 0; aside = false }) in
    let l = c.loop-i-test.true in
    let is = get_same runs i _ r l in
    let inv = c.loop-i.invariant in
    let was = c.args.elements.now.items in
    let low = c.requires.old in
    let size = c.args.elements.now.ok.0 in
    let high : n ≤ length was = omega (arith, low, size) in
    let one = c.requires.first in
    let mine = cut_closed n runs i c.loop-i.stay first was c.loop-i.elements.items one high inv.closed in
    let ahead : length (take first was) ≡ first = length-take-le first was (omega (arith, one, high)) in
    let whole : length (take n was) ≡ n = length-take-le n was high in
    let t = sym c.stays.ensures ∙ c.if-not-stays.false in
    let to = (closed_bounds n runs first (take first was) (take n was) (drop n was) ahead whole i c.loop-i.stay r c.loop-i.elements.items l is mine t).1 in
    let len = inv.len in
    omega (arith, to, low, len)

pub overflow_add-stay : goal.overflow_add-stay
overflow_add-stay g c =
    let runs = c.args.runs.now in
    let n = c.args.old in
    let first = c.args.first in
    let i = c.loop-i.i in
    let r : Run = get_or runs i (record { from = 0; count = 0; aside = false }) in
    let l = c.loop-i-test.true in
    let is = get_same runs i _ r l in
    let inv = c.loop-i.invariant in
    let was = c.args.elements.now.items in
    let low = c.requires.old in
    let size = c.args.elements.now.ok.0 in
    let high : n ≤ length was = omega (arith, low, size) in
    let one = c.requires.first in
    let mine = cut_closed n runs i c.loop-i.stay first was c.loop-i.elements.items one high inv.closed in
    let ahead : length (take first was) ≡ first = length-take-le first was (omega (arith, one, high)) in
    let whole : length (take n was) ≡ n = length-take-le n was high in
    let t = sym c.stays.ensures ∙ c.if-not-stays.false in
    let b = closed_bounds n runs first (take first was) (take n was) (drop n was) ahead whole i c.loop-i.stay r c.loop-i.elements.items l is mine t in
    let at = b.0 in
    let to = b.1 in
    let few = c.ranges.old.fits in
    omega (arith, at, to, few)

pub overflow_add-place-in-loop-i : goal.overflow_add-place-in-loop-i
overflow_add-place-in-loop-i g c =
    let runs = c.args.runs.now in
    let n = c.args.old in
    let first = c.args.first in
    let i = c.loop-i.i in
    let r : Run = get_or runs i (record { from = 0; count = 0; aside = false }) in
    let l = c.loop-i-test.true in
    let is = get_same runs i _ r l in
    let inv = c.loop-i.invariant in
    let more = counts_more n runs i r l is in
    let stays_more = more.0 in
    let comes_more = more.1 in
    let within = counts_within n runs i r l is in
    let some_stay = within.0 in
    let some_come = within.1 in
    let t = sym c.stays.ensures ∙ c.if-not-stays.false in
    let a = ap (λ b. cond b r.count 0) t in
    let b = ap (λ b. cond b 0 r.count) t in
    let place = inv.place in
    let few = c.requires.few in
    omega (arith, stays_more, comes_more, some_stay, some_come, a, b, place, few)

pub loop-i-preserved : goal.loop-i-preserved
loop-i-preserved g c =
    let runs = c.args.runs.now in
    let n = c.args.old in
    let first = c.args.first in
    let i = c.loop-i.i in
    let r : Run = get_or runs i (record { from = 0; count = 0; aside = false }) in
    let l = c.loop-i-test.true in
    let is = get_same runs i _ r l in
    let inv = c.loop-i.invariant in
    let more = counts_more n runs i r l is in
    let stays_more = more.0 in
    let comes_more = more.1 in
    let t = sym c.stays.ensures ∙ c.if-not-stays.false in
    let a = ap (λ b. cond b r.count 0) t in
    let b = ap (λ b. cond b 0 r.count) t in
    let place = inv.place in
    record {
      place = omega (arith, place, stays_more, comes_more, a, b);
      closed = λ part was rest e h w. closed_on n runs first part was rest h w i c.loop-i.stay r c.loop-i.elements.items l is (inv.closed part was rest e h w) t c.turn_in.new.elements.items c.turn_in.ensures.turned;
      len = c.turn_in.ensures.len ∙ inv.len;
      room = c.turn_in.ensures.room ∙ inv.room;
    }

pub returns-clause-stay : goal.returns-clause-stay
returns-clause-stay g c =
    let runs = c.args.runs.now in
    let n = c.args.old in
    let first = c.args.first in
    let i = c.loop-i.i in
    let inv = c.loop-i.invariant in
    let was = c.args.elements.now.items in
    let low = c.requires.old in
    let size = c.args.elements.now.ok.0 in
    let high : n ≤ length was = omega (arith, low, size) in
    let one = c.requires.first in
    let mine = cut_closed n runs i c.loop-i.stay first was c.loop-i.elements.items one high inv.closed in
    let ahead : length (take first was) ≡ first = length-take-le first was (omega (arith, one, high)) in
    let whole : length (take n was) ≡ n = length-take-le n was high in
    let all = take_whole runs i c.loop-i-test.false in
    let whole_runs = take_whole runs (length runs) (omega arith) in
    mine.count ∙ ap (λ rs. first + count_staying n rs) (all ∙ sym whole_runs)

pub returns-clause-closed : goal.returns-clause-closed
returns-clause-closed g c = λ part was rest made e h w.
    let runs = c.args.runs.now in
    let n = c.args.old in
    let first = c.args.first in
    let i = c.loop-i.i in
    let inv = c.loop-i.invariant in
    let all = take_whole runs i c.loop-i-test.false in
    let whole_runs = take_whole runs (length runs) (omega arith) in
    let mine = inv.closed part was rest e h w in
    let known = closed_window n runs first part was rest h w i c.loop-i.stay n c.loop-i.elements.items mine mine.within (omega arith) made in
    subst (λ (rs : List Run). IsClosed part (staying n rs (was ++ made)) (n - c.loop-i.stay) (drop n was ++ rest) c.loop-i.elements.items) (all ∙ sym whole_runs) known
