use Rattle.std.proofs.Common.{◌∙◌}
use Rattle.rd_tree.proofs.Laying.Shown.{is_touched-laid}
use Rattle.rd_tree.proofs.tree.Tree.none_touched.Goals as goal

pub returns : goal.returns
returns g c = rw (← c.self.view_is) (λ u k w. is_touched-laid c.self.inside.hands.items k c.self.inside.drawn.boxes ∙ c.none_touched.ensures u k w)
