use Rattle.std.proofs.Common.{◌∙◌, sym, ap, ◌+◌}
use Rattle.rd_keys.specs.Keys.{same_key}
use Rattle.rd_tree.specs.Internal.Hands.{hand_at}
use Rattle.rd_tree.specs.Internal.Laid.{laid_at}
use Rattle.rd_tree.proofs.Forests.ByKey.{has-by}
use Rattle.rd_tree.proofs.Laying.Shown.{below-height}
use Rattle.rd_tree.proofs.tree.Tree.height.Goals as goal

pub height-requires : goal.height-requires
height-requires g c = (sym (has-by (λ k d. laid_at (hand_at c.self.inside.hands.items k) d) same_key c.args.key c.self.inside.drawn.boxes) ∙ (rw (← c.self.view_is) at c.requires))

pub returns : goal.returns
returns g c = rw (← c.self.view_is) (c.height.ensures ∙ ap (λ n. 1 + n) (sym (below-height c.self.inside.hands.items c.args.key c.self.inside.drawn.boxes)))
