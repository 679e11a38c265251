use Rattle.std.proofs.Common.{◌≡◌, ◌<◌, ◌+◌, ◌-◌, ◌∙◌, ℕ, false, ap, arith, cond, get_or, length, subst, sym, take}
use Rattle.rd_graph.specs.Internal.InPlace.{count_coming, count_staying}
use Rattle.rd_graph.specs.declared.runs.Run.{Run}
use Rattle.rd_graph.proofs.Patches.ListsAt.{get_same}
use Rattle.rd_graph.proofs.LinedUp.InPlace.{counts_more, counts_within, spread_last, spread_over, spread_past, spreads}
use Rattle.rd_graph.proofs.in_place.spread_out.Goals as goal

pub loop-left-preserved-then-stays : goal.loop-left-preserved-then-stays
loop-left-preserved-then-stays g c =
    let runs = c.args.runs.now in
    let n = c.args.old in
    let inv = c.loop-left.invariant in
    let i = c.loop-left.left - 1 in
    let r : Run = get_or runs i (record { from = 0; count = 0; aside = false }) in
    let some = c.loop-left-test.true in
    let most = inv.left in
    let up : c.loop-left.left ≡ i + 1 = omega (arith, some) in
    let l : i < length runs = omega (arith, some, most) in
    let is : r ≡ get_or runs i r = get_same runs i _ r l in
    let counts = counts_more n runs i r l is in
    let stays_more = counts.0 in
    let comes_more = counts.1 in
    let stay = inv.stay ∙ ap (λ (k : ℕ). c.args.end + count_staying n (take k runs)) up in
    let come = inv.come ∙ ap (λ (k : ℕ). count_coming n (take k runs)) up in
    let t = sym c.stays.ensures ∙ c.if-stays.true in
    let one = ap (λ b. cond b r.count 0) t in
    let none = ap (λ b. cond b 0 r.count) t in
    record {
      left = omega (arith, l);
      stay = omega (arith, stay, stays_more, one);
      come = omega (arith, come, comes_more, none);
      len = c.turn_in.ensures.len ∙ inv.len;
      placed = λ part xs ys rest whole at was.
          spread_over n runs part xs ys rest whole i r l is c.loop-left.elements.items c.turn_in.new.elements.items _ c.loop-left.come t
          (subst (λ (k : ℕ). c.loop-left.elements.items ≡ spreads n runs part xs ys rest whole k) up (inv.placed part xs ys rest whole at was))
          (omega (arith, at, stay, stays_more, one)) come c.turn_in.ensures.turned;
      room = c.turn_in.ensures.room ∙ inv.room;
    }

pub loop-left-preserved : goal.loop-left-preserved
loop-left-preserved g c =
    let runs = c.args.runs.now in
    let n = c.args.old in
    let inv = c.loop-left.invariant in
    let i = c.loop-left.left - 1 in
    let r : Run = get_or runs i (record { from = 0; count = 0; aside = false }) in
    let some = c.loop-left-test.true in
    let most = inv.left in
    let up : c.loop-left.left ≡ i + 1 = omega (arith, some) in
    let l : i < length runs = omega (arith, some, most) in
    let is : r ≡ get_or runs i r = get_same runs i _ r l in
    let counts = counts_more n runs i r l is in
    let stays_more = counts.0 in
    let comes_more = counts.1 in
    let stay = inv.stay ∙ ap (λ (k : ℕ). c.args.end + count_staying n (take k runs)) up in
    let come = inv.come ∙ ap (λ (k : ℕ). count_coming n (take k runs)) up in
    let f = sym c.stays.ensures ∙ c.if-stays.false in
    let one = ap (λ b. cond b r.count 0) f in
    let none = ap (λ b. cond b 0 r.count) f in
    record {
      left = omega (arith, l);
      stay = omega (arith, stay, stays_more, one);
      come = omega (arith, come, comes_more, none);
      len = inv.len;
      placed = λ part xs ys rest whole at was.
          spread_past n runs part xs ys rest whole i r l is c.loop-left.elements.items f
          (subst (λ (k : ℕ). c.loop-left.elements.items ≡ spreads n runs part xs ys rest whole k) up (inv.placed part xs ys rest whole at was));
      room = inv.room;
    }

pub overflow_sub-stay : goal.overflow_sub-stay
overflow_sub-stay g c =
    let runs = c.args.runs.now in
    let n = c.args.old in
    let inv = c.loop-left.invariant in
    let i = c.loop-left.left - 1 in
    let r : Run = get_or runs i (record { from = 0; count = 0; aside = false }) in
    let some = c.loop-left-test.true in
    let most = inv.left in
    let up : c.loop-left.left ≡ i + 1 = omega (arith, some) in
    let l : i < length runs = omega (arith, some, most) in
    let is : r ≡ get_or runs i r = get_same runs i _ r l in
    let counts = counts_more n runs i r l is in
    let stays_more = counts.0 in
    let comes_more = counts.1 in
    let stay = inv.stay ∙ ap (λ (k : ℕ). c.args.end + count_staying n (take k runs)) up in
    let come = inv.come ∙ ap (λ (k : ℕ). count_coming n (take k runs)) up in
    let one = ap (λ b. cond b r.count 0) (sym c.stays.ensures ∙ c.if-stays.true) in
    omega (arith, stay, stays_more, one)

pub overflow_add-middle-then-stays : goal.overflow_add-middle-then-stays
overflow_add-middle-then-stays g c =
    let runs = c.args.runs.now in
    let n = c.args.old in
    let inv = c.loop-left.invariant in
    let i = c.loop-left.left - 1 in
    let r : Run = get_or runs i (record { from = 0; count = 0; aside = false }) in
    let some = c.loop-left-test.true in
    let most = inv.left in
    let up : c.loop-left.left ≡ i + 1 = omega (arith, some) in
    let l : i < length runs = omega (arith, some, most) in
    let is : r ≡ get_or runs i r = get_same runs i _ r l in
    let counts = counts_more n runs i r l is in
    let stays_more = counts.0 in
    let comes_more = counts.1 in
    let stay = inv.stay ∙ ap (λ (k : ℕ). c.args.end + count_staying n (take k runs)) up in
    let come = inv.come ∙ ap (λ (k : ℕ). count_coming n (take k runs)) up in
    let one = ap (λ b. cond b r.count 0) (sym c.stays.ensures ∙ c.if-stays.true) in
    let within = counts_within n runs i r l is in
    let some_stay = within.0 in
    let some_come = within.1 in
    let all_stay = c.requires.stay in
    let all = c.requires.within in
    let total = c.requires.come in
    let few = c.ranges.end.fits in
    let len = inv.len in
    omega (arith, stay, stays_more, one, some_stay, all_stay, few)

pub turn_in-requires-clause-within : goal.turn_in-requires-clause-within
turn_in-requires-clause-within g c =
    let runs = c.args.runs.now in
    let n = c.args.old in
    let inv = c.loop-left.invariant in
    let i = c.loop-left.left - 1 in
    let r : Run = get_or runs i (record { from = 0; count = 0; aside = false }) in
    let some = c.loop-left-test.true in
    let most = inv.left in
    let up : c.loop-left.left ≡ i + 1 = omega (arith, some) in
    let l : i < length runs = omega (arith, some, most) in
    let is : r ≡ get_or runs i r = get_same runs i _ r l in
    let counts = counts_more n runs i r l is in
    let stays_more = counts.0 in
    let comes_more = counts.1 in
    let stay = inv.stay ∙ ap (λ (k : ℕ). c.args.end + count_staying n (take k runs)) up in
    let come = inv.come ∙ ap (λ (k : ℕ). count_coming n (take k runs)) up in
    let one = ap (λ b. cond b r.count 0) (sym c.stays.ensures ∙ c.if-stays.true) in
    let within = counts_within n runs i r l is in
    let some_stay = within.0 in
    let some_come = within.1 in
    let all_stay = c.requires.stay in
    let all = c.requires.within in
    let total = c.requires.come in
    let few = c.ranges.end.fits in
    let len = inv.len in
    omega (arith, stay, come, stays_more, one, some_stay, some_come, all_stay, all, total, len)

pub overflow_sub-come : goal.overflow_sub-come
overflow_sub-come g c =
    let runs = c.args.runs.now in
    let n = c.args.old in
    let inv = c.loop-left.invariant in
    let i = c.loop-left.left - 1 in
    let r : Run = get_or runs i (record { from = 0; count = 0; aside = false }) in
    let some = c.loop-left-test.true in
    let most = inv.left in
    let up : c.loop-left.left ≡ i + 1 = omega (arith, some) in
    let l : i < length runs = omega (arith, some, most) in
    let is : r ≡ get_or runs i r = get_same runs i _ r l in
    let counts = counts_more n runs i r l is in
    let stays_more = counts.0 in
    let comes_more = counts.1 in
    let stay = inv.stay ∙ ap (λ (k : ℕ). c.args.end + count_staying n (take k runs)) up in
    let come = inv.come ∙ ap (λ (k : ℕ). count_coming n (take k runs)) up in
    let none = ap (λ b. cond b 0 r.count) (sym c.stays.ensures ∙ c.if-stays.false) in
    omega (arith, come, comes_more, none)

pub returns-else-come-gt0-clause-spread : goal.returns-else-come-gt0-clause-spread
returns-else-come-gt0-clause-spread g c =
    let inv = c.loop-left.invariant in
    let come = inv.come in
    let done = c.if-come-gt0.false in
    λ part xs ys rest whole at was. spread_last c.args.old c.args.runs.now part xs ys rest whole c.loop-left.left c.loop-left.elements.items (omega (arith, come, done)) (inv.placed part xs ys rest whole at was)
