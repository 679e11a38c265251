use Rattle.std.proofs.Common.{◌≡◌, refl, ◌∙◌, ap, get_or, inl, inr, arith}
use Rattle.std.proofs.lemmas.Bool.{cases_lt}
use Rattle.std.proofs.lemmas.Result.{on_ok_weaker}
use Rattle.rd_graph.specs.Internal.Ranks.{spread}
use Rattle.rd_graph.proofs.LinedUp.ByRanks.CountedRanks.{counted_next, counted_last}
use Rattle.rd_graph.proofs.counting.push_counted.Goals as goal

pub loop-i-init : goal.loop-i-init
loop-i-init c = record { runs = refl; low = λ k l. absurd (omega (arith, l)); high = λ k l m. c.requires.after k m }

pub push_staying-requires : goal.push_staying-requires
push_staying-requires c = let l = c.requires.before c.loop-i.i c.loop-i-test.true in let to = c.requires.to in omega (arith, l, to)

pub loop-i-preserved : goal.loop-i-preserved
loop-i-preserved c =
    let some = c.args.some.now in
    let i = c.loop-i.i in
    let was = c.loop-i.invariant in
    record {
      runs = counted_next c.args.stays.now some c.args.least c.args.to i c.loop-i.place c.requires.rising was.low was.high (spread c.loop-i.runs.items) (spread c.push_staying.new.runs.items) _ c.loop-i-test.true (c.requires.before i c.loop-i-test.true) was.runs c.in_ok-push_staying.ensures;
      low = λ k l. elim (cases_lt k i) [
        | inl u ↦ let v = c.requires.rising k i u c.loop-i-test.true in omega (arith, v)
        | inr u ↦ let e : get_or some k 0 ≡ get_or some i 0 = ap (λ n. get_or some n 0) (let f : k ≡ i = omega (arith, l, u) in f) in omega (arith, e)
      ];
      high = λ k l m. let v = c.requires.rising i k (omega (arith, l)) m in omega (arith, v);
    }

pub returns : goal.returns
returns c =
    let l = c.loop-i-test.false in
    let m = c.loop-i.auto.i-end in
    let was = c.loop-i.invariant in
    on_ok_weaker c.push_staying-2.result
    (λ h. h ∙ counted_last c.args.stays.now c.args.some.now c.args.least c.args.to c.loop-i.i c.loop-i.place c.requires.rising was.low was.high (spread c.loop-i.runs.items) _ (omega (arith, l, m)) was.runs)
    c.push_staying-2.ensures
