use Rattle.rd_check.proofs.Named.{AreNamed}
use Rattle.rd_check.proofs.naming.name_all.Given as goal

-- the lines so far have boxes
abbrev pub invariant-loop-i : goal.invariant-loop-i
invariant-loop-i g l = AreNamed l.tree l.rows l.entries.items l.i
