use Rattle.std.proofs.Common.{◌≡◌, ◌++◌, take}
use Rattle.std.specs.Prelude.{flat_map}
use Rattle.rd_style.specs.declared.kinds.Class.TheVariants as classes
use Rattle.rd_trace.specs.declared.placing.PaintStep.TheVariants as at
use Rattle.rd_trace.specs.Steps as spec
use Rattle.rd_trace.proofs.steps.contents_below.Given as goal

abbrev pub invariant-loop-x : goal.invariant-loop-x
invariant-loop-x l = l.out.items ≡ l.fn.out.items ++ flat_map (λ x. spec.content_and_line l.s at.BlockContents l.e l.below x.at) (spec.of_class classes.Block (spec.local_boxes l.e (take l.x-index l.below)))
