use Rattle.rd_tree.specs.Internal.Calm.{AreCalm}
use Rattle.rd_tree.proofs.calm.renew.Given as goal

abbrev pub invariant-loop-page : goal.invariant-loop-page
invariant-loop-page l = AreCalm l.rows l.calm
