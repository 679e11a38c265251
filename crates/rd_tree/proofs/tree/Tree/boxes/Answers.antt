use Rattle.std.proofs.Common.{◌∙◌, sym}
use Rattle.rd_tree.specs.Internal.Hands.{hand_at}
use Rattle.rd_tree.specs.Internal.Laid.{laid_at}
use Rattle.rd_tree.proofs.Forests.ByKey.{size-by}
use Rattle.rd_tree.proofs.tree.Tree.boxes.Goals as goal

pub returns-clause-count : goal.returns-clause-count
returns-clause-count g c = rw (← c.self.view_is) (c.boxes.ensures.count ∙ sym (size-by (λ k d. laid_at (hand_at c.self.inside.hands.items k) d) c.self.inside.drawn.boxes))
