use Rattle.std.proofs.Common.{◌≡◌, ◌∙◌, sym, subst, ◌+◌, ◌<◌, ℕ, List, arith, length, length-set, get_or, nat_lt, suc}
use Rattle.rd_merge.specs.Internal.Sought.{last_at, marks_of}
use Rattle.rd_merge.proofs.Chained.{count_next, last_next, before_next}
use Rattle.rd_merge.proofs.sought.Sought.new.Goals as goal

pub loop-name-preserved : goal.loop-name-preserved
loop-name-preserved c =
    let names = c.args.names.now in
    let wide = nat_lt 256 (length names) in
    let i = c.loop-name.name-index in
    let inv = c.loop-name.invariant in
    let lasts = c.loop-name.lasts.items in
    let befores = c.loop-name.befores.items in
    let mark = c.mark_of-mark.result in
    let count = count_next befores c.push.new.self.items c.index.result.now i c.in_ok-push.ensures.items inv.count in
    let len = c.len.ensures in
    let number : c.len.result ≡ suc i = omega (arith, count, len) in
    record {
      size = length-set _ _ _ ∙ inv.size;
      lasts = last_next wide names i _ mark lasts befores c.loop-name-test.true c.mark_of-mark.ensures.value inv.size c.len.result number inv.lasts;
      count = count;
      befores = subst (λ (bs : List ℕ). (j : ℕ) → j < i + 1 → get_or bs j 0 ≡ last_at (marks_of wide names) j (get_or (marks_of wide names) j 0)) (sym c.in_ok-push.ensures.items)
          (before_next wide names i _ mark lasts befores c.loop-name-test.true c.mark_of-mark.ensures.value inv.size c.index.result.now c.index.ensures inv.count inv.lasts inv.befores);
    }
