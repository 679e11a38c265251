use Rattle.std.proofs.Common.{◌≡◌, map, take}
use Rattle.rd_check.specs.Internal.Keyed.{shown}
use Rattle.rd_check.specs.Internal.Lines.{row_name}
use Rattle.rd_check.proofs.judging.entry_names.Given as goal

-- the names so far
abbrev pub invariant-loop-entry : goal.invariant-loop-entry
invariant-loop-entry l = l.names.items ≡ map (λ e. row_name (shown e)) (take l.entry-index l.entries)
