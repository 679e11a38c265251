use Rattle.std.proofs.Common.{◌≡◌, ◌<◌, ◌+◌, get_or, [], length, inr, ⊎_elim, arith, rules, IsFalse, IsTrue}
use Rattle.rd_area.specs.Internal.Bands.{band_of}
use Rattle.rd_area.specs.Internal.Joining.{row_meets}
use Rattle.rd_area.proofs.Banded.{EndsBefore, band_before_next, no_earlier, no_later, order, row_here}
use Rattle.rd_area.proofs.Spans.{at_place, meets_more}
use Rattle.rd_area.proofs.bands.meets.Goals as goal

pub loop-k-init : goal.loop-k-init
loop-k-init c =
    let f : EndsBefore c.args.ends.now (c.args.from + 1) c.ends_before-k.result =
    record { before = c.ends_before-k.ensures.before; rest = c.ends_before-k.ensures.rest } in
    let b : c.ends_before-k.result ≡ band_of c.args.ends.now c.args.from = band_before_next c.args.ends.now c.args.from c.ends_before-k.result c.ends_before-k.ensures.within f in
    record {
      first = omega (arith, b);
      within = c.ends_before-k.ensures.within;
      before = λ j l. (let t = c.ends_before-k.ensures.before j l in omega (arith, t, c.requires.order));
      none = λ n f l. absurd (omega (arith, b, f, l));
    }

pub returns-then-meets-clause-found : goal.returns-then-meets-clause-found
returns-then-meets-clause-found c = λ t.
    let h : c.loop-k.k < length c.args.bands.now.items = search rules in
    let met : IsTrue (row_meets c.index.result.now.items c.args.span) = rw (← c.deref.ensures.value, ← c.meets.ensures) c.if-meets.true in (
      c.loop-k.k,
      row_here c.args.ends.now c.args.from c.args.to c.loop-k.k c.requires.rising c.requires.order c.requires.all c.loop-k.invariant.before c.loop-k.invariant.first c.loop-k-test.true,
      rw (at_place (λ r. r.items) [] c.args.bands.now.items c.loop-k.k c.index.result.now h c.index.ensures) met,
    )

pub returns-then-to-ends-clause-none : goal.returns-then-to-ends-clause-none
returns-then-to-ends-clause-none c = λ t y f l.
    let h : c.loop-k.k < length c.args.bands.now.items = search rules in
    let n : IsFalse (row_meets c.index.result.now.items c.args.span) = rw (← c.deref.ensures.value, ← c.meets.ensures) c.if-meets.false in
    let last = no_later c.args.ends.now c.args.from c.args.to c.loop-k.k c.requires.rising c.requires.order c.requires.all c.loop-k.invariant.before y f l (inr c.if-to-ends.true) in
    meets_more c.args.bands.now.items c.loop-k.k c.index.result.now (band_of c.args.ends.now c.args.from) c.args.span h c.index.ensures n c.loop-k.invariant.none (band_of c.args.ends.now y)
    (no_earlier c.args.ends.now c.args.from c.args.to c.loop-k.k c.requires.rising c.requires.order c.requires.all c.loop-k.invariant.before y f l) (omega (arith, last))

pub loop-k-preserved : goal.loop-k-preserved
loop-k-preserved c =
    let h : c.loop-k.k < length c.args.bands.now.items = search rules in
    let n : IsFalse (row_meets c.index.result.now.items c.args.span) = rw (← c.deref.ensures.value, ← c.meets.ensures) c.if-meets.false in
    let first = c.loop-k.invariant.first in
    let here : get_or c.args.ends.now c.loop-k.k 0 < c.args.to = omega (arith, c.if-to-ends.false) in
    record {
      first = omega (arith, first);
      within = omega (arith, c.loop-k-test.true);
      before = λ j l. ⊎_elim (λ a. c.loop-k.invariant.before j a) (λ a. (let e : j ≡ c.loop-k.k = omega (arith, a, l) in rw e here)) (order j c.loop-k.k);
      none = meets_more c.args.bands.now.items c.loop-k.k c.index.result.now (band_of c.args.ends.now c.args.from) c.args.span h c.index.ensures n c.loop-k.invariant.none;
    }

pub returns-clause-none : goal.returns-clause-none
returns-clause-none c = λ t y f l.
    let within = c.requires.all y l in
    c.loop-k.invariant.none (band_of c.args.ends.now y)
    (no_earlier c.args.ends.now c.args.from c.args.to c.loop-k.k c.requires.rising c.requires.order c.requires.all c.loop-k.invariant.before y f l) (omega (arith, within, c.loop-k-test.false))
