use Rattle.rd_check.specs.Internal.Rounds.{ways_in}
use Rattle.rd_check.proofs.Straying.{Strays}
use Rattle.rd_check.proofs.judging.first_wrapped.Given as goal

-- none so far, and the groups round what comes
abbrev pub invariant-loop-i : goal.invariant-loop-i
invariant-loop-i l = Strays (ways_in l.fresh) l.seen l.round.items l.i
