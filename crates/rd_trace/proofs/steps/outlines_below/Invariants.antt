use Rattle.std.proofs.Common.{◌≡◌, ◌++◌, take}
use Rattle.std.specs.Prelude.{flat_map}
use Rattle.rd_keys.specs.declared.entry.Part.TheVariants as parts
use Rattle.rd_trace.specs.declared.placing.PaintStep.TheVariants as at
use Rattle.rd_trace.specs.Ways.{place}
use Rattle.rd_trace.specs.Steps as spec
use Rattle.rd_trace.specs.Internal.Pieces as pieces
use Rattle.rd_trace.proofs.steps.outlines_below.Given as goal

abbrev pub invariant-loop-x : goal.invariant-loop-x
invariant-loop-x l = l.out.items ≡ l.fn.out.items ++ flat_map (λ x. spec.trace l.s (place at.Outlines l.e x.at) parts.Outline x.at) (pieces.outlined l.e (take l.x-index l.below))
