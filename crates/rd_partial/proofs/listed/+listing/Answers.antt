use Rattle.std.proofs.Common.{◌≡◌, ◌∙◌, ap, subst, sym, ℕ, ◌+◌, ◌-◌, ◌∷◌, [], false, length, take, drop, arith}
use Rattle.rd_list.specs.Chunks.{Covers, IsAt, Tells}
use Rattle.rd_list.specs.EntryNames.{kept_leaves}
use Rattle.rd_list.specs.KeptView.{kept_entries}
use Rattle.rd_tree.specs.Document.{is_touched}
use Rattle.rd_partial.specs.Invalid.{any_shows}
use Rattle.rd_partial.specs.Internal.Touched.{Joins}
use Rattle.rd_partial.proofs.Adding.{joins_rect}
use Rattle.std.proofs.lemmas.Result.{on_ok_weaker}
use Rattle.rd_list.proofs.Blocking.{at_block}
use Rattle.rd_list.proofs.Covering.{ahead_first}
use Rattle.rd_list.proofs.Parting.{part_size, rest_is}
use Rattle.rd_list.proofs.Viewing.{size_at}
use Rattle.rd_partial.proofs.Listing.{entry_more, item_shows}
use Rattle.rd_partial.proofs.Parted.{chunk_more, covers_part, quiet_joins, rest_more}
use Rattle.rd_partial.proofs.listed.+listing.Goals as goal

pub add_level-add_block-requires : goal.add_level-add_block-requires
add_level-add_block-requires g t c κs within =
    let es = c.args.level.entries.now in
    let bs = c.args.level.blocks.now in
    let p = c.loop-i.place in
    let b = c.block-item.result in
    let size = part_size es p ((p + b.count) - p) in
    let first = ahead_first bs es c.loop-i.i p b c.loop-i-test.true c.block-item.is c.loop-i.invariant.within c.loop-i.invariant.ahead in
    let l = first.0 in
    let e : b.count ≡ (p + b.count) - p = omega arith in (
      omega (arith, size, c.decreases),
      (
        within.0,
        (
          within.1,
          (
            subst (λ (n : ℕ). b.is_open ≡ false → Tells b (take n (drop p es))) e first.1,
            covers_part c.eight.result.now es p ((p + b.count) - p) (omega (arith, l)) (c.eight.ensures.total b c.block-item.is ∙ e) c.eight.ensures.covers,
          ),
        ),
      ),
    )

pub add_level-loop-i-preserved : goal.add_level-loop-i-preserved
add_level-loop-i-preserved g t c =
    let bs = c.args.level.blocks.now in
    let es = c.args.level.entries.now in
    let i = c.loop-i.i in
    let p = c.loop-i.place in
    let b = c.block-item.result in
    let w = c.loop-i.invariant.within in
    let first = ahead_first bs es i p b c.loop-i-test.true c.block-item.is w c.loop-i.invariant.ahead in
    let l = first.0 in
    record {
      at = at_block bs i p b c.loop-i-test.true c.block-item.is c.loop-i.invariant.at;
      within = omega (arith, l, w);
      ahead = first.2;
      joins = chunk_more c.args.tree.now es p b.count c.args.area.now c.loop-i.area c.add_block.new.area c.loop-i.invariant.joins
          (subst (λ (n : ℕ). Joins (any_shows c.args.tree.now (kept_leaves (kept_entries (take n (drop p es))))) c.loop-i.area c.add_block.new.area) (let e : (p + b.count) - p ≡ b.count = omega arith in e) c.in_ok-add_block.ensures);
    }

pub add_level-rest-requires-clause-at : goal.add_level-rest-requires-clause-at
add_level-rest-requires-clause-at g t c =
    let l = c.loop-i-test.false in
    let m = c.loop-i.auto.i-end in
    let same : c.loop-i.i ≡ length c.args.level.blocks.now = omega (arith, l, m) in
    subst (λ (k : ℕ). IsAt c.args.level.blocks.now k c.loop-i.place) same c.loop-i.invariant.at

pub add_level-add_chunks-requires : goal.add_level-add_chunks-requires
add_level-add_chunks-requires g t c κs within =
    let es = c.args.level.entries.now in
    let p = c.loop-i.place in
    let size = part_size es p (length es - p) in
    (omega (arith, size, c.decreases), (within.0, (within.1, subst (Covers c.rest.result.now) (sym (rest_is es p)) c.rest.ensures.covers)))

pub add_level-returns : goal.add_level-returns
add_level-returns g t c =
    let es = c.args.level.entries.now in
    let p = c.loop-i.place in
    on_ok_weaker c.add_chunks.result
    (λ j. rest_more c.args.tree.now es p c.args.area.now c.loop-i.area c.add_chunks.new.area c.loop-i.invariant.joins
    (subst (λ ys. Joins (any_shows c.args.tree.now (kept_leaves (kept_entries ys))) c.loop-i.area c.add_chunks.new.area) (rest_is es p) j))
    c.add_chunks.ensures

pub add_block-returns-then-is_quiet : goal.add_block-returns-then-is_quiet
add_block-returns-then-is_quiet g t c =
    quiet_joins c.args.tree.now c.args.block.now.told.keys c.args.entries.now c.args.area.now (c.is_quiet.ensures.untouched c.if-is_quiet.true) (c.requires.told (c.is_quiet.ensures.open c.if-is_quiet.true)).2

pub add_chunks-add_chunk-requires : goal.add_chunks-add_chunk-requires
add_chunks-add_chunk-requires g t c κs within =
    let es = c.args.entries.now in
    let p = c.loop-chunk.place in
    let b = c.chunk-item.result in
    let size = part_size es p ((p + b.count) - p) in
    let first = ahead_first c.args.chunks.now es c.loop-chunk.chunk-index p b c.loop-chunk-test.true c.chunk-item.is c.loop-chunk.invariant.within c.loop-chunk.invariant.ahead in
    (omega (arith, size, c.decreases), (within.0, (within.1, subst (λ (n : ℕ). b.is_open ≡ false → Tells b (take n (drop p es))) (let e : b.count ≡ (p + b.count) - p = omega arith in e) first.1)))

pub add_chunks-loop-chunk-preserved : goal.add_chunks-loop-chunk-preserved
add_chunks-loop-chunk-preserved g t c =
    let es = c.args.entries.now in
    let p = c.loop-chunk.place in
    let b = c.chunk-item.result in
    let w = c.loop-chunk.invariant.within in
    let first = ahead_first c.args.chunks.now es c.loop-chunk.chunk-index p b c.loop-chunk-test.true c.chunk-item.is w c.loop-chunk.invariant.ahead in
    let l = first.0 in
    record {
      within = omega (arith, l, w);
      ahead = first.2;
      joins = chunk_more c.args.tree.now es p b.count c.args.area.now c.loop-chunk.area c.add_chunk.new.area c.loop-chunk.invariant.joins
          (subst (λ (n : ℕ). Joins (any_shows c.args.tree.now (kept_leaves (kept_entries (take n (drop p es))))) c.loop-chunk.area c.add_chunk.new.area) (let e : (p + b.count) - p ≡ b.count = omega arith in e) c.in_ok-add_chunk.ensures);
    }

pub add_chunks-add_entries-requires : goal.add_chunks-add_entries-requires
add_chunks-add_entries-requires g t c κs within =
    let size = part_size c.args.entries.now c.loop-chunk.place (length c.args.entries.now - c.loop-chunk.place) in
    (omega (arith, size, c.decreases), within)

pub add_chunks-returns : goal.add_chunks-returns
add_chunks-returns g t c =
    let es = c.args.entries.now in
    let p = c.loop-chunk.place in
    rest_more c.args.tree.now es p c.args.area.now c.loop-chunk.area c.add_entries.new.area c.loop-chunk.invariant.joins
    (subst (λ ys. Joins (any_shows c.args.tree.now (kept_leaves (kept_entries ys))) c.loop-chunk.area c.add_entries.new.area) (rest_is es p) c.in_ok-add_entries.ensures)

pub add_chunk-returns-then-is_quiet : goal.add_chunk-returns-then-is_quiet
add_chunk-returns-then-is_quiet g t c =
    quiet_joins c.args.tree.now c.args.chunk.now.told.keys c.args.entries.now c.args.area.now (c.is_quiet.ensures.untouched c.if-is_quiet.true) (c.requires (c.is_quiet.ensures.open c.if-is_quiet.true)).2

pub add_entries-add_entry-requires : goal.add_entries-add_entry-requires
add_entries-add_entry-requires g t c κs within =
    let s = size_at c.args.entries.now c.loop-entry.entry-index c.entry-item.result c.loop-entry-test.true c.entry-item.is in
    (omega (arith, s, c.decreases), within)

pub add_entries-loop-entry-preserved : goal.add_entries-loop-entry-preserved
add_entries-loop-entry-preserved g t c =
    entry_more c.args.tree.now c.args.entries.now c.loop-entry.entry-index c.entry-item.result c.args.area.now c.loop-entry.area c.add_entry.new.area c.loop-entry-test.true c.entry-item.is c.loop-entry.invariant c.in_ok-add_entry.ensures

pub add_entry-returns-in_ok-add-in-Leaf : goal.add_entry-returns-in_ok-add-in-Leaf
add_entry-returns-in_ok-add-in-Leaf g t c =
    subst (λ z. Joins (any_shows c.args.tree.now (kept_leaves (kept_entries (z ∷ [])))) c.args.area.now c.add.new.self) (sym c.in-Leaf.is)
    (item_shows c.args.tree.now c.in-Leaf.item c.visible.result c.args.area.now c.add.new.self c.visible.ensures.value (ap (λ k. is_touched k c.args.tree.now.boxes) (sym c.owner.ensures) ∙ sym c.touched.ensures ∙ c.if-touched.true)
    (joins_rect c.visible.result c.args.area.now c.add.new.self c.in_ok-add-in-Leaf.ensures.size c.in_ok-add-in-Leaf.ensures.pixels))
