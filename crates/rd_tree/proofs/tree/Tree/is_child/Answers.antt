use Rattle.std.proofs.Common.{◌∙◌, sym, ap}
use Rattle.rd_tree.specs.Forest.{children, is_among}
use Rattle.rd_keys.specs.Keys.{same_key}
use Rattle.rd_tree.specs.Internal.Hands.{hand_at}
use Rattle.rd_tree.specs.Internal.Laid.{laid_at}
use Rattle.rd_tree.proofs.Forests.ByKey.{has-by, children-by, is_among-by}
use Rattle.rd_tree.proofs.tree.Tree.is_child.Goals as goal

pub is_child-requires-clause-key : goal.is_child-requires-clause-key
is_child-requires-clause-key g c = (sym (has-by (λ k d. laid_at (hand_at c.self.inside.hands.items k) d) same_key c.args.key c.self.inside.drawn.boxes) ∙ (rw (← c.self.view_is) at c.requires.key))

pub is_child-requires-clause-parent : goal.is_child-requires-clause-parent
is_child-requires-clause-parent g c = (sym (has-by (λ k d. laid_at (hand_at c.self.inside.hands.items k) d) same_key c.args.parent c.self.inside.drawn.boxes) ∙ (rw (← c.self.view_is) at c.requires.parent))

pub returns : goal.returns
returns g c = rw (← c.self.view_is) (c.is_child.ensures ∙ (sym (is_among-by (λ k d. laid_at (hand_at c.self.inside.hands.items k) d) same_key c.args.key (children same_key c.args.parent c.self.inside.drawn.boxes))
    ∙ ap (is_among same_key c.args.key) (sym (children-by (λ k d. laid_at (hand_at c.self.inside.hands.items k) d) same_key c.args.parent c.self.inside.drawn.boxes))))
