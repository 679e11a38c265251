use Rattle.std.proofs.Common.{◌≡◌, ◌∙◌, sym, ap, arith}
use Rattle.rd_list.specs.Displayed.{shown}
use Rattle.rd_list.specs.EntryNames.{kept_leaves}
use Rattle.rd_paint.specs.Internal.Picks.{picked}
use Rattle.rd_paint.proofs.Picking.{named_alone, some_by}
use Rattle.rd_paint.proofs.rects.only_leaf.Goals as goal

pub returns : goal.returns
returns g c =
    let e : shown c.entries.result.now ≡ kept_leaves c.args.inner.now.entries = ap kept_leaves (c.entries.ensures) in
    some_by _ _ c.leaf_at.result
    (λ i h. ap (λ es. picked c.args.own.now es) (sym e) ∙ named_alone c.args.own.now c.pick_at-place.result.1.now c.pick_at-place.result.0 (shown c.entries.result.now) i.now.leaf (omega (arith, c.if-own-ne1.false)) c.pick_at-place.ensures.parts (h c.pick_at-place.result.1.now)) c.leaf_at.ensures
