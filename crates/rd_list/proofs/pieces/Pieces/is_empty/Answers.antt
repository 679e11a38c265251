use Rattle.std.proofs.Common.{◌∙◌, sym}
use Rattle.rd_list.proofs.Piling.{empty-below, some-below, some_new}
use Rattle.rd_list.proofs.pieces.Pieces.is_empty.Goals as goal

pub returns-then-is_empty : goal.returns-then-is_empty
returns-then-is_empty g c =
    c.is_empty-then-is_empty.ensures
    ∙ rw (← c.self.view_is) (empty-below _ _ _ _ c.self.invariant (sym c.self.inside.top.ok.0) (sym c.is_empty.ensures ∙ c.if-is_empty.true) (sym c.self.inside.below.ok.0))

pub returns-else-is_empty : goal.returns-else-is_empty
returns-else-is_empty g c =
    c.if-is_empty.false
    ∙ rw (← c.self.view_is) (sym (some-below _ _ c.self.invariant (some_new _ _ (sym c.self.inside.top.ok.0) (sym c.is_empty.ensures ∙ c.if-is_empty.false))))
