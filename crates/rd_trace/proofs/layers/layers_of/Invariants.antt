use Rattle.std.proofs.Common.{◌≡◌, take, map}
use Rattle.std.specs.Prelude.{filter}
use Rattle.rd_trace.specs.Steps as spec
use Rattle.rd_trace.specs.Internal.Pieces.{now, has_sign}
use Rattle.rd_trace.proofs.layers.layers_of.Given as goal

abbrev pub invariant-loop-x : goal.invariant-loop-x
invariant-loop-x l = map now l.all.items ≡ filter (has_sign l.sign) (spec.layers_of l.e (take l.x-index l.below))
