use Rattle.std.proofs.Common.{◌≡◌, ◌++◌, take, codes}
use Rattle.std.specs.Prelude.{flat_map, string_bytes}
use Rattle.rd_why.specs.Lines.{group_further}
use Rattle.rd_why.proofs.lines.push_groups_further.Given as goal

abbrev pub invariant-loop-g : goal.invariant-loop-g
invariant-loop-g g l = string_bytes l.out ≡ string_bytes l.fn.out ++ flat_map (group_further l.tree.boxes) (take l.g-index l.gs)
