use Rattle.rd_tree.specs.declared.links.walk.Work.TheVariants.{Touch}
use Rattle.rd_tree.specs.Internal.Works.{Allows}
use Rattle.rd_tree.proofs.Nodes.Each.{all_items}
use Rattle.rd_tree.proofs.links.walk.touch.Goals as goal

pub work_below-requires-clause-allowed : goal.work_below-requires-clause-allowed
work_below-requires-clause-allowed c = all_items (Allows Touch) _ (λ d. tt)
