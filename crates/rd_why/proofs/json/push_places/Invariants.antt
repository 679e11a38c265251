use Rattle.std.proofs.Common.{◌≡◌, ◌++◌, drop}
use Rattle.std.specs.Prelude.{string_bytes}
use Rattle.rd_why.specs.Json.{places_json}
use Rattle.rd_why.proofs.json.push_places.Given as goal

-- what is written, and what is left to write
abbrev pub invariant-loop-i : goal.invariant-loop-i
invariant-loop-i g l = string_bytes l.out ++ places_json l.tree.boxes (drop l.i l.ps) ≡ string_bytes l.fn.out ++ places_json l.tree.boxes l.ps
