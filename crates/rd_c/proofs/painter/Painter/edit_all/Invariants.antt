use Rattle.std.proofs.Common.{take}
use Rattle.rd_c.specs.Asked.{AreDone}
use Rattle.rd_c.specs.Batched.{Spells}
use Rattle.rd_c.proofs.painter.Painter.edit_all.Given as goal

abbrev pub invariant-loop-i : goal.invariant-loop-i
invariant-loop-i l = record { done : AreDone (Spells l.texts) (take l.i l.edits) l.fn.self l.self }
