use Rattle.std.proofs.Common.{◌≡◌, ◌∙◌, ◌+◌, ◌≤◌, drop, ap, sym, subst, map, length, ℕ, arith}
use Rattle.rd_graph.specs.Names.{place_of, same_entry}
use Rattle.rd_graph.proofs.Patches.Marks.{take_whole}
use Rattle.rd_list.specs.EntryNames.{entry_names, kept_leaves}
use Rattle.rd_list.specs.KeptView.{kept_entries}
use Rattle.rd_list.specs.Chunks.{Covers, IsAt}
use Rattle.rd_list.proofs.Blocking.{at_block}
use Rattle.rd_list.proofs.Covering.{ahead_first}
use Rattle.rd_merge.specs.Going.{is_untouched}
use Rattle.rd_merge.specs.Looking.{gone_places, inner_places, kept_names}
use Rattle.rd_merge.proofs.Looks.{names_length}
use Rattle.rd_merge.proofs.looking.look.Goals as goal

pub in_block-requires-clause-end : goal.in_block-requires-clause-end
in_block-requires-clause-end g c =
    let a = ahead_first c.args.level.blocks.now c.args.level.entries.now c.loop-i.i c.loop-i.place c.block-item.result c.loop-i-test.true c.block-item.is c.loop-i.invariant.within c.loop-i.invariant.ahead in
    let l = a.0 in
    let w = c.loop-i.invariant.within in
    omega (arith, l, w)

pub in_block-requires-clause-told : goal.in_block-requires-clause-told
in_block-requires-clause-told g c = (ahead_first c.args.level.blocks.now c.args.level.entries.now c.loop-i.i c.loop-i.place c.block-item.result c.loop-i-test.true c.block-item.is c.loop-i.invariant.within c.loop-i.invariant.ahead).1

pub loop-i-preserved : goal.loop-i-preserved
loop-i-preserved g c =
    let bs = c.args.level.blocks.now in
    let es = c.args.level.entries.now in
    let i = c.loop-i.i in
    let b = c.block-item.result in
    let a = ahead_first bs es i c.loop-i.place b c.loop-i-test.true c.block-item.is c.loop-i.invariant.within c.loop-i.invariant.ahead in
    let l = a.0 in
    let w = c.loop-i.invariant.within in
    let n = c.in_ok-place.ensures.end in
    let t = at_block bs i c.loop-i.place b c.loop-i-test.true c.block-item.is c.loop-i.invariant.at in
    record {
      at = (t.0, n ∙ t.1);
      within = omega (arith, n, l, w);
      ahead = subst (λ (p : ℕ). Covers (drop (i + 1) bs) (drop p es)) (sym n) a.2;
      noted = c.in_ok-place.ensures.noted;
    }

pub rest-requires-clause-at : goal.rest-requires-clause-at
rest-requires-clause-at g c =
    let l = c.loop-i-test.false in
    let m = c.loop-i.auto.i-end in
    let same : c.loop-i.i ≡ length c.args.level.blocks.now = omega (arith, l, m) in
    subst (λ (k : ℕ). IsAt c.args.level.blocks.now k c.loop-i.place) same c.loop-i.invariant.at

pub returns : goal.returns
returns g c =
    let t = g.T.Touches.is_touched c.args.tree.now in
    let es = c.args.level.entries.now in
    let n = length es in
    let l = c.in_ok-anywhere.ensures.looked in
    let all = take_whole es n (omega arith) in
    record {
      gone_are = l.gone_are ∙ ap (λ xs. gone_places entry_names (is_untouched t) 0 (kept_leaves (kept_entries xs))) all;
      found_are = l.found_are ∙ ap (λ ks. map (λ k. place_of same_entry ks k) c.args.names.now) (take_whole (kept_names (kept_entries es)) n (subst (λ (m : ℕ). m ≤ n) (sym (names_length es)) (omega arith)));
      inner_are = l.inner_are ∙ ap (λ xs. inner_places entry_names (is_untouched t) c.args.names.now 0 (kept_leaves (kept_entries xs))) all;
    }
