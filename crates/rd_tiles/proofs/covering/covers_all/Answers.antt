use Rattle.std.proofs.Common.{◌≡◌, true, false, sym, ap, ◌∙◌}
use Rattle.rd_geom.specs.Plane.{IsWithin, meets}
use Rattle.rd_item.specs.declared.leaf.Shape.{Shape}
use Rattle.rd_tiles.proofs.Lids.{all_covered, covered_clear, covered_within, not_true, true_not}
use Rattle.rd_tiles.proofs.covering.covers_all.Goals as goal

pub returns-then-has_all : goal.returns-then-has_all
returns-then-has_all g c =
    let w : IsWithin c.args.tile c.args.item.now.leaf.visible = rw c.visible.ensures.value at (c.has_all.ensures.0 c.if-has_all.true) in
    let o : IsWithin c.args.item.now.leaf.visible c.args.item.now.leaf.shape.outer = rw c.visible.ensures.value at c.visible.ensures.within in
    let e : c.meets.result ≡ meets c.args.tile c.args.item.now.leaf.shape.inner = c.meets.ensures.value ∙ ap (λ (s : Shape). meets c.args.tile s.inner) c.shape.ensures in
    (λ h. all_covered c.args.item.now.leaf c.args.tile o w (sym e ∙ not_true c.meets.result h), λ f. true_not c.meets.result (e ∙ covered_clear c.args.item.now.leaf c.args.tile f))

pub returns-else-has_all : goal.returns-else-has_all
returns-else-has_all g c = (
  λ h. absurd (let no : false ≡ true = sym c.if-has_all.false ∙ h in cc),
  λ f.
      let w : IsWithin c.args.tile c.visible.result = rw c.visible.ensures.value (covered_within c.args.item.now.leaf c.args.tile f) in
      c.has_all.ensures.1 w,
)
