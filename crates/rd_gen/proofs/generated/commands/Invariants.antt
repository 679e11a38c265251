use Rattle.std.proofs.Common.{◌≡◌}
use Rattle.rd_gen.specs.Commands as spec
use Rattle.rd_gen.proofs.generated.commands.Given as goal

-- the commands so far are those of so many edits
abbrev pub invariant-loop-j : goal.invariant-loop-j
invariant-loop-j l = spec.commands l.boxes l.j l.fn.draw ≡ (l.commands.items, l.draw)
