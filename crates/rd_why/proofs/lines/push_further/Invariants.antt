use Rattle.std.proofs.Common.{◌≡◌, ◌++◌, take, codes}
use Rattle.std.specs.Prelude.{flat_map, string_bytes}
use Rattle.rd_why.specs.Lines.{place_text}
use Rattle.rd_why.proofs.lines.push_further.Given as goal

abbrev pub invariant-loop-p : goal.invariant-loop-p
invariant-loop-p g l = string_bytes l.out ≡ string_bytes l.fn.out ++ flat_map (λ q. codes ", in " ++ place_text l.tree.boxes q) (take l.p-index l.ps)
