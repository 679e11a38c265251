use Rattle.std.proofs.Common.{◌≡◌, ◌++◌, drop}
use Rattle.std.specs.Prelude.{string_bytes}
use Rattle.rd_why.specs.Json.{groups_json}
use Rattle.rd_why.proofs.json.push_groups.Given as goal

-- what is written, and what is left to write
abbrev pub invariant-loop-i : goal.invariant-loop-i
invariant-loop-i g l = string_bytes l.out ++ groups_json l.tree.boxes (drop l.i l.gs) ≡ string_bytes l.fn.out ++ groups_json l.tree.boxes l.gs
