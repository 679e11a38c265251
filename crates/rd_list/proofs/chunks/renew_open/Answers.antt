use Rattle.std.proofs.Common.{◌≡◌, ◌+◌, arith, drop, sym, subst, ℕ}
use Rattle.rd_list.specs.Chunks.{Covers}
use Rattle.rd_list.proofs.Covering.{ahead_first, stay_next}
use Rattle.rd_list.proofs.chunks.renew_open.Goals as goal
use Rattle.rd_list.proofs.chunks.renew_open.Goals.{then-stays+else-not-cover_on+else-not-push_chunk, else-stays}

pub loop-i-preserved : goal.loop-i-preserved
loop-i-preserved g c =
    let es = c.args.entries.now in
    let b = c.index-had-i.result in
    let a = ahead_first c.args.had.now es c.loop-i.i c.loop-i.place b c.loop-i-test.true c.index-had-i.is c.loop-i.invariant.within c.loop-i.invariant.ahead in
    let l = a.0 in
    let w = c.loop-i.invariant.within in
    let d = c.loop-i.invariant.done in
    let next : c.if-stays.place ≡ c.loop-i.place + b.count = elim c.if-stays.branch [ then-stays+else-not-cover_on+else-not-push_chunk v ↦ v.place-is | else-stays v ↦ v.place-is ] in
    record {
      done = elim c.if-stays.branch [ then-stays+else-not-cover_on+else-not-push_chunk v ↦ (let e = v.done-is in omega (arith, e, next)) | else-stays v ↦ (let e = v.done-is in omega (arith, e, next, d)) ];
      within = omega (arith, next, l, w);
      ahead = subst (λ (p : ℕ). Covers (drop (c.loop-i.i + 1) c.args.had.now) (drop p es)) (sym next) a.2;
      covers = elim c.if-stays.branch [
        | then-stays+else-not-cover_on+else-not-push_chunk v ↦
            rw (v.chunks-is, v.done-is) (stay_next v.cover_on.new.chunks.items v.push_chunk.new.chunks.items b es c.loop-i.place (v.cover_on.ensures.all v.if-not-cover_on.false) l a.1 (v.push_chunk.ensures.put v.if-not-push_chunk.false))
        | else-stays v ↦ rw (v.chunks-is, v.done-is) c.loop-i.invariant.covers
      ];
    }
