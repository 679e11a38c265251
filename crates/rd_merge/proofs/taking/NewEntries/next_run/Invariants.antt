use Rattle.std.proofs.Common.{◌≡◌}
use Rattle.std.specs.Vec.Iter.{into_iter_len}
use Rattle.rd_merge.specs.Internal.Untaken.{untaken}
use Rattle.rd_merge.proofs.taking.NewEntries.next_run.Given as goal

abbrev pub invariant-loop-self : goal.invariant-loop-self
invariant-loop-self g l = record { same : untaken l.self ≡ untaken l.fn.self }

abbrev pub decreases-loop-self : goal.decreases-loop-self
decreases-loop-self g l = into_iter_len l.self.after
