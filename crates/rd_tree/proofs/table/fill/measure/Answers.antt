use Rattle.std.proofs.Common.{subst, sym}
use Rattle.std.specs.Prelude.{option_map}
use Rattle.rd_style.specs.Limits.{Fits}
use Rattle.rd_tree.specs.Limits.{IsNear}
use Rattle.rd_tree.specs.Internal.Linked.{plain}
use Rattle.rd_tree.specs.Internal.Rows.{IsFitAt}
use Rattle.rd_tree.proofs.Summaries.Extents.{extent_is_placed}
use Rattle.rd_tree.proofs.table.fill.measure.Goals as goal

pub outset-requires : goal.outset-requires
outset-requires c =
    let f : IsNear c.in-Some.node.now.item.rect × Fits c.in-Some.node.now.item.style = subst (λ o. IsFitAt (option_map plain o)) (sym c.in-Some.ensures)
    c.requires in
    extent_is_placed c.in-Some.node.now.item.rect c.in-Some.node.now.item.style f.0 f.1
