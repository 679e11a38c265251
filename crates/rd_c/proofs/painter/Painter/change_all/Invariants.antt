use Rattle.std.proofs.Common.{◌≡◌, take}
use Rattle.rd_c.specs.Held.{IsChanged}
use Rattle.rd_c.specs.Turns.{InTurn}
use Rattle.rd_c.proofs.painter.Painter.change_all.Given as goal

abbrev pub invariant-loop-i : goal.invariant-loop-i
invariant-loop-i l = record { done : InTurn IsChanged (take l.i l.edits) l.fn.self.engine l.self.engine; undo : l.self.undo ≡ l.fn.self.undo }
