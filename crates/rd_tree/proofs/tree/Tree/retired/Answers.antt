use Rattle.std.proofs.Common.{◌∙◌, ap, ◌+◌}
use Rattle.rd_tree.specs.Internal.Hands.{hand_at}
use Rattle.rd_tree.specs.Internal.Laid.{laid_at}
use Rattle.rd_tree.proofs.Forests.ByKey.{size-by}
use Rattle.rd_tree.proofs.tree.Tree.retired.Goals as goal

pub returns : goal.returns
returns g c = rw (← c.self.view_is) (ap (λ n. n + c.retired.result) (size-by (λ k d. laid_at (hand_at c.self.inside.hands.items k) d) c.self.inside.drawn.boxes) ∙ c.retired.ensures)
