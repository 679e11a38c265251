use Rattle.std.proofs.Common.{◌≡◌, ap, arith, subst, sym, ◌∙◌, ℕ, ◌+◌, ◌-◌, false, length, take, drop}
use Rattle.rd_list.specs.Chunks.{Tells}
use Rattle.rd_list.specs.KeptView.{kept_entries}
use Rattle.rd_list.proofs.Covering.{ahead_first}
use Rattle.rd_list.proofs.Parting.{part_size, rest_is}
use Rattle.rd_list.proofs.Viewing.{size_at}
use Rattle.rd_merge.specs.Internal.Looks.{has_touched}
use Rattle.rd_merge.proofs.Leaving.{touched_at, touched_part, touched_rest, untouched_next, untouched_on}
use Rattle.rd_merge.proofs.Quiet.{none_goes}
use Rattle.rd_merge.proofs.inner.+leaving.Goals as goal

pub goes_by-goes_in_chunk-requires : goal.goes_by-goes_in_chunk-requires
goes_by-goes_in_chunk-requires g t c κs within =
    let es = c.args.entries.now in
    let p = c.loop-chunk.place in
    let b = c.chunk-item.result in
    let size = part_size es p ((p + b.count) - p) in
    let first = ahead_first c.args.chunks.now es c.loop-chunk.chunk-index p b c.loop-chunk-test.true c.chunk-item.is c.loop-chunk.invariant.within c.loop-chunk.invariant.ahead in
    (omega (arith, size, c.decreases), (within.0, (within.1, subst (λ (n : ℕ). b.is_open ≡ false → Tells b (take n (drop p es))) (let e : b.count ≡ (p + b.count) - p = omega arith in e) first.1)))

pub goes_by-returns-then-goes_in_chunk : goal.goes_by-returns-then-goes_in_chunk
goes_by-returns-then-goes_in_chunk g t c =
    let p = c.loop-chunk.place in
    let b = c.chunk-item.result in
    sym (touched_part (g.T.Touches.is_touched c.args.tree.now) c.args.entries.now p ((p + b.count) - p) (sym c.goes_in_chunk.ensures ∙ c.if-goes_in_chunk.true))

pub goes_by-loop-chunk-preserved : goal.goes_by-loop-chunk-preserved
goes_by-loop-chunk-preserved g t c =
    let es = c.args.entries.now in
    let p = c.loop-chunk.place in
    let b = c.chunk-item.result in
    let w = c.loop-chunk.invariant.within in
    let touched = g.T.Touches.is_touched c.args.tree.now in
    let first = ahead_first c.args.chunks.now es c.loop-chunk.chunk-index p b c.loop-chunk-test.true c.chunk-item.is w c.loop-chunk.invariant.ahead in
    let l = first.0 in
    record {
      within = omega (arith, l, w);
      ahead = first.2;
      none = untouched_on touched es p b.count c.loop-chunk.invariant.none
          (subst (λ (n : ℕ). has_touched touched (kept_entries (take n (drop p es))) ≡ false) (let e : (p + b.count) - p ≡ b.count = omega arith in e)
          (sym c.goes_in_chunk.ensures ∙ c.if-goes_in_chunk.false));
    }

pub goes_by-any_goes-requires : goal.goes_by-any_goes-requires
goes_by-any_goes-requires g t c κs within =
    let size = part_size c.args.entries.now c.loop-chunk.place (length c.args.entries.now - c.loop-chunk.place) in
    (omega (arith, size, c.decreases), within)

pub goes_by-returns : goal.goes_by-returns
goes_by-returns g t c =
    let es = c.args.entries.now in
    let p = c.loop-chunk.place in
    let touched = g.T.Touches.is_touched c.args.tree.now in
    c.any_goes.ensures ∙ (ap (λ ys. has_touched touched (kept_entries ys)) (rest_is es p) ∙ sym (touched_rest touched es p c.loop-chunk.invariant.none))

pub goes_in_chunk-returns-then-stands_still : goal.goes_in_chunk-returns-then-stands_still
goes_in_chunk-returns-then-stands_still g t c =
    sym (none_goes (g.T.Touches.is_touched c.args.tree.now) c.args.chunk.now.told.keys (c.stands_still.ensures.untouched c.if-stands_still.true)
    (kept_entries c.args.entries.now) (c.requires (c.stands_still.ensures.open c.if-stands_still.true)).2)

pub any_goes-goes_at-requires : goal.any_goes-goes_at-requires
any_goes-goes_at-requires g t c κs within =
    let s = size_at c.args.entries.now c.loop-entry.entry-index c.entry-item.result (omega arith) c.entry-item.is in
    (omega (arith, s, c.decreases), within)

pub any_goes-returns-then-goes_at : goal.any_goes-returns-then-goes_at
any_goes-returns-then-goes_at g t c = sym (touched_at (g.T.Touches.is_touched c.args.tree.now) c.args.entries.now c.loop-entry.entry-index c.entry-item.result (omega arith) c.entry-item.is (sym c.goes_at.ensures ∙ c.if-goes_at.true))

pub any_goes-loop-entry-preserved : goal.any_goes-loop-entry-preserved
any_goes-loop-entry-preserved g t c = untouched_next (g.T.Touches.is_touched c.args.tree.now) c.args.entries.now c.loop-entry.entry-index c.entry-item.result c.loop-entry-test.true c.entry-item.is c.loop-entry.invariant (sym c.goes_at.ensures ∙ c.if-goes_at.false)
