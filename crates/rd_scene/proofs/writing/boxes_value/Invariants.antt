use Rattle.std.proofs.Common.{◌≡◌, map, take}
use Rattle.serde_json.specs.View.{view}
use Rattle.rd_scene.specs.Writing.{box_value}
use Rattle.rd_scene.proofs.writing.boxes_value.Given as goal

-- the values so far are those of the elements so far
abbrev pub invariant-loop-b : goal.invariant-loop-b
invariant-loop-b l = map view l.values.items ≡ map box_value (take l.b-index l.boxes)
