use Rattle.std.proofs.Common.{◌≡◌, map, take}
use Rattle.rd_check.specs.Internal.Sights.{found_name}
use Rattle.rd_check.proofs.judging.leaf_names.Given as goal

-- the names so far
abbrev pub invariant-loop-found : goal.invariant-loop-found
invariant-loop-found l = l.names.items ≡ map found_name (take l.found-index l.leaves)
