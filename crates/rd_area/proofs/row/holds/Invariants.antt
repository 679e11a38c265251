use Rattle.std.proofs.Common.{◌≡◌, drop}
use Rattle.rd_geom.specs.Areas.{in_spans}
use Rattle.rd_area.proofs.row.holds.Given as goal

abbrev pub invariant-loop-s : goal.invariant-loop-s
invariant-loop-s l = in_spans l.row l.x ≡ in_spans (drop l.s-index l.row) l.x
