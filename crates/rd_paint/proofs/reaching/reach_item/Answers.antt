use Rattle.std.proofs.Common.{◌∙◌, sym, FitsSigned, w32, rules}
use Rattle.std.proofs.lemmas.Int.{to_z-of_z}
use Rattle.rd_paint.proofs.Shown.Seen.{leaf_off_columns, leaf_off_row}
use Rattle.rd_paint.proofs.reaching.reach_item.Goals as goal

pub returns-then-has_row : goal.returns-then-has_row
returns-then-has_row g c = λ x y d h. leaf_off_columns c.args.item.now.leaf x y d (rw (c.columns.ensures, c.visible-seen.ensures.value) at h.1)

pub returns : goal.returns
returns g c = λ x y d h.
    let fy : FitsSigned w32 c.args.y = search rules in
    let row = simp to_z-of_z at c.has_row.ensures in
    leaf_off_row c.args.item.now.leaf x y d (rw (h.0, ← c.visible-seen.ensures.value) (sym row ∙ c.if-has_row.false))
