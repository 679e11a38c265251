use Rattle.std.proofs.Common.{◌≡◌}
use Rattle.rd_c.specs.Copied.{copied}
use Rattle.rd_c.proofs.copying.copy_rows.Given as goal

abbrev pub invariant-loop-i : goal.invariant-loop-i
invariant-loop-i l = record { copied : l.out ≡ copied l.format l.stride l.canvas l.part.x l.part.y l.part.w l.i l.fn.out }
