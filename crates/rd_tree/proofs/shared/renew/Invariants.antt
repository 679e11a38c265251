use Rattle.rd_tree.specs.Internal.Glances.{AreShared}
use Rattle.rd_tree.proofs.shared.renew.Given as goal

abbrev pub invariant-loop-page : goal.invariant-loop-page
invariant-loop-page l = AreShared l.words l.shared
