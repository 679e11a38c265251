use Rattle.std.proofs.Common.{◌∙◌, sym}
use Rattle.rd_keys.specs.Keys.{same_key}
use Rattle.rd_tree.specs.Internal.Hands.{hand_at}
use Rattle.rd_tree.specs.Internal.Laid.{laid_at}
use Rattle.rd_tree.proofs.Forests.ByKey.{has-by, parent-by}
use Rattle.rd_tree.proofs.tree.Tree.parent.Goals as goal

pub parent-requires : goal.parent-requires
parent-requires g c = (sym (has-by (λ k d. laid_at (hand_at c.self.inside.hands.items k) d) same_key c.args.key c.self.inside.drawn.boxes) ∙ (rw (← c.self.view_is) at c.requires))

pub returns-clause-parent : goal.returns-clause-parent
returns-clause-parent g c = rw (← c.self.view_is) (c.parent.ensures.parent ∙ sym (parent-by (λ k d. laid_at (hand_at c.self.inside.hands.items k) d) same_key c.args.key c.self.inside.drawn.boxes))

pub returns-clause-root : goal.returns-clause-root
returns-clause-root g c = rw (← c.self.view_is) c.parent.ensures.root
