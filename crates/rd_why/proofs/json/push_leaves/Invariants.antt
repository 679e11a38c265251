use Rattle.std.proofs.Common.{◌≡◌, ◌++◌, drop, false}
use Rattle.std.specs.Prelude.{string_bytes}
use Rattle.rd_why.specs.Json.{leaves_json}
use Rattle.rd_why.proofs.json.push_leaves.Given as goal

-- what is written, and what is left to write
abbrev pub invariant-loop-i : goal.invariant-loop-i
invariant-loop-i g l =
    string_bytes l.out ++ leaves_json l.tree.boxes l.found (drop l.i l.ts) ≡ string_bytes l.fn.out ++ leaves_json l.tree.boxes false l.ts
