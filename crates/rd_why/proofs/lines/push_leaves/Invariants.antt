use Rattle.std.proofs.Common.{◌≡◌, ◌++◌, drop, false}
use Rattle.std.specs.Prelude.{string_bytes}
use Rattle.rd_why.specs.Lines.{leaf_lines}
use Rattle.rd_why.proofs.lines.push_leaves.Given as goal

-- what is written, and what is left to write
abbrev pub invariant-loop-i : goal.invariant-loop-i
invariant-loop-i g l =
    string_bytes l.out ++ leaf_lines l.tree.boxes l.found (drop l.i l.ts) ≡ string_bytes l.fn.out ++ leaf_lines l.tree.boxes false l.ts
