use Rattle.std.proofs.Common.{sym, subst, arith, [], ◌++◌, ◌∷◌}
use Rattle.rd_tree.specs.Internal.Calm.{AreCalm}
use Rattle.rd_tree.proofs.Nodes.Calm.{calm_longer, calm_begun}
use Rattle.rd_tree.proofs.calm.extend.Goals as goal

pub returns-then-page-len : goal.returns-then-page-len
returns-then-page-len c = λ y. calm_longer c.args.rows.now c.args.calm.now.items y c.requires.calm (grind arith)

pub returns-else-page-len : goal.returns-else-page-len
returns-else-page-len c = λ y. subst (λ cs. AreCalm (c.args.rows.now ++ y ∷ []) cs) (sym c.push_reserved.ensures.items)
    (calm_begun c.args.rows.now c.args.calm.now.items y c.requires.calm (grind arith))
