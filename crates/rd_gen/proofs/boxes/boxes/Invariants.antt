use Rattle.std.proofs.Common.{◌≡◌, vec_len}
use Rattle.rd_gen.specs.Boxes as spec
use Rattle.rd_gen.specs.Internal.Depths.{HasDepths}
use Rattle.rd_gen.proofs.Growth.{IsGrown}
use Rattle.rd_gen.proofs.boxes.boxes.Given as goal

-- the boxes so far are the first, and their depths are known
abbrev pub invariant-loop-i : goal.invariant-loop-i
invariant-loop-i l = record {
  drawn : spec.boxes l.i l.fn.draw ≡ (l.boxes.items, l.draw);
  grown : IsGrown l.i l.boxes.items;
  len : vec_len l.depths ≡ l.i;
  depths : HasDepths l.boxes.items l.depths.items;
}
