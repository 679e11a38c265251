use Rattle.std.proofs.Common.{◌∙◌, subst, sym}
use Rattle.rd_partial.specs.Internal.Touched.{Joins, leaf_shows}
use Rattle.rd_partial.proofs.Adding.{joins_rect}
use Rattle.rd_partial.proofs.touched.add_part.Goals as goal

pub returns-in_ok-add-in-Some : goal.returns-in_ok-add-in-Some
returns-in_ok-add-in-Some c =
    subst (λ z. Joins (leaf_shows z) c.args.area.now c.add.new.self) (sym c.in-Some.is ∙ c.leaf.ensures)
    (joins_rect c.in-Some.leaf.visible c.args.area.now c.add.new.self c.in_ok-add-in-Some.ensures.size c.in_ok-add-in-Some.ensures.pixels)
