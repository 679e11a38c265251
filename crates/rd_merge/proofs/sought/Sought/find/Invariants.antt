use Rattle.rd_merge.proofs.Chained.{IsAt}
use Rattle.rd_merge.proofs.sought.Sought.find.Given as goal

abbrev pub decreases-loop-number : goal.decreases-loop-number
decreases-loop-number l = l.number

abbrev pub invariant-loop-number : goal.invariant-loop-number
invariant-loop-number l = record { at : IsAt l.self.is_wide l.names l.name l.number }
