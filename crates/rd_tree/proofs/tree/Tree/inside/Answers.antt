use Rattle.std.proofs.Common.{◌∙◌, sym}
use Rattle.rd_keys.specs.Keys.{same_key}
use Rattle.rd_tree.specs.Internal.Hands.{hand_at}
use Rattle.rd_tree.specs.Internal.Laid.{laid_at}
use Rattle.rd_tree.proofs.Forests.ByKey.{has-by, subtree-by}
use Rattle.rd_tree.proofs.tree.Tree.inside.Goals as goal

pub inside-requires : goal.inside-requires
inside-requires g c = (sym (has-by (λ k d. laid_at (hand_at c.self.inside.hands.items k) d) same_key c.args.key c.self.inside.drawn.boxes) ∙ (rw (← c.self.view_is) at c.requires))

pub returns : goal.returns
returns g c = rw (← c.self.view_is) (c.inside.ensures ∙ sym (subtree-by (λ k d. laid_at (hand_at c.self.inside.hands.items k) d) same_key c.args.key c.args.of c.self.inside.drawn.boxes))
