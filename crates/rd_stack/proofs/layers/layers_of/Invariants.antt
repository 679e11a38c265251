use Rattle.std.proofs.Common.{◌≡◌, take, map}
use Rattle.std.specs.Prelude.{filter}
use Rattle.rd_stack.specs.Internal.Values.{now}
use Rattle.rd_stack.specs.Internal.Tests.{has_sign}
use Rattle.rd_stack.specs.Painting as painting
use Rattle.rd_stack.proofs.layers.layers_of.Given as goal

abbrev pub invariant-loop-x : goal.invariant-loop-x
invariant-loop-x l = map now l.all.items ≡ filter (has_sign l.sign) (painting.layers_of l.e (take l.x-index l.below))
