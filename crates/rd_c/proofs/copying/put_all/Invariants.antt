use Rattle.std.proofs.Common.{◌≡◌, ◌*◌, ◌++◌, take, drop}
use Rattle.std.specs.Prelude.{flat_map}
use Rattle.rd_c.specs.Copied.{quad}
use Rattle.rd_c.proofs.copying.put_all.Given as goal

abbrev pub invariant-loop-i : goal.invariant-loop-i
invariant-loop-i l = record { put : l.out ≡ flat_map (quad l.format) (take l.i l.pixels) ++ drop (4 * l.i) l.fn.out }
