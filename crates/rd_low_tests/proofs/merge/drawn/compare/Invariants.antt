use Rattle.rd_low_tests.specs.DrawnLevels.{IsHeld}
use Rattle.rd_low_tests.specs.declared.merge.TheConstants.{INK}
use Rattle.rd_low_tests.proofs.merge.drawn.compare.Given as goal

abbrev pub invariant-loop-at : goal.invariant-loop-at
invariant-loop-at g l = record { held : IsHeld INK l.kept l.spots.items }
