use Rattle.std.proofs.Common.{◌≡◌, ◌++◌, take, map}
use Rattle.std.specs.Prelude.{flat_map}
use Rattle.rd_trace.specs.Steps as spec
use Rattle.rd_trace.specs.Internal.Pieces.{now, step_of}
use Rattle.rd_trace.proofs.layers.layers.Given as goal

abbrev pub invariant-loop-x : goal.invariant-loop-x
invariant-loop-x l = l.out.items ≡ l.fn.out.items ++ flat_map (spec.layer (step_of l.sign) l.e) (map now (take l.x-index l.xs))
