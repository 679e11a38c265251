use Rattle.std.proofs.Common.{take}
use Rattle.rd_c.specs.Asked.{AreDone}
use Rattle.rd_c.specs.Rendered.{IsPlanting}
use Rattle.rd_c.proofs.painter.Painter.plant_all.Given as goal

abbrev pub invariant-loop-child : goal.invariant-loop-child
invariant-loop-child l = record { planted : AreDone (IsPlanting l.names) (take l.child-index l.boxes) l.fn.self l.self }
