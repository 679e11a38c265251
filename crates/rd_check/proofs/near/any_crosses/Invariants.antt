use Rattle.std.proofs.Common.{◌≡◌, false, take}
use Rattle.std.specs.List.{list_any}
use Rattle.rd_check.specs.Internal.Near.{crosses}
use Rattle.rd_check.proofs.near.any_crosses.Given as goal

-- none so far
abbrev pub invariant-loop-spot : goal.invariant-loop-spot
invariant-loop-spot l = list_any (crosses l.seen l.place) (take l.spot-index l.spots) ≡ false
