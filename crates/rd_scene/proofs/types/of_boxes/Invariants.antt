use Rattle.std.specs.List.{AllWithin}
use Rattle.rd_scene.specs.Canonical.{IsBox}
use Rattle.rd_scene.proofs.types.of_boxes.Given as goal

-- so far as the loop has come
abbrev pub invariant-loop-b : goal.invariant-loop-b
invariant-loop-b l = AllWithin IsBox l.boxes 0 l.b-index
