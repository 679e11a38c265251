use Rattle.std.proofs.Common.{◌≡◌, map, take, None}
use Rattle.rd_merge.proofs.looking.nothing.Given as goal

abbrev pub invariant-loop : goal.invariant-loop
invariant-loop l = record { found : l.found.items ≡ map (λ k. None) (take l.index l.names) }
