-- The ten steps, put together otherwise.
use Rattle.std.proofs.Common.{◌≡◌, List, ◌++◌}
use Rattle.rd_stack.specs.Paths.{BoxPath}
use Rattle.rd_trace.specs.declared.placing.Sight.{Sight}
use Rattle.rd_trace.specs.Ways.{TracedBox}
use Rattle.rd_trace.specs.Steps as spec
use Rattle.rd_trace.specs.Internal.Pieces as pieces
use Rattle.rd_trace.proofs.Passing.{ten_in_four, ten_from_last}

module _ (s : Sight) (e : BoxPath) (below : List TracedBox) where
  -- in four parts
  pub in_four : pieces.own_backgrounds s e ++ pieces.under_contents s e below ++ pieces.contents_and_lines s e below ++ pieces.over_contents s e below ≡ spec.steps s e below
  unfolding spec.steps pieces.own_backgrounds pieces.under_contents pieces.contents_and_lines pieces.over_contents
  in_four =
      ten_in_four (spec.root_background s e) (spec.own_background_and_border s e) (spec.negative_layers e below) (spec.block_backgrounds s e below) (spec.floats e below)
      (spec.inline_context s e below) (spec.block_contents s e below) (spec.zero_layers e below) (spec.positive_layers e below) (spec.outlines s e below)

  -- from the last
  pub from_last : spec.steps s e below
      ≡ spec.root_background s e ++ (spec.own_background_and_border s e ++ (spec.negative_layers e below ++ (spec.block_backgrounds s e below ++ (spec.floats e below
      ++ (spec.inline_context s e below ++ (spec.block_contents s e below ++ (spec.zero_layers e below ++ (spec.positive_layers e below ++ spec.outlines s e below))))))))
  unfolding spec.steps
  from_last =
      ten_from_last (spec.root_background s e) (spec.own_background_and_border s e) (spec.negative_layers e below) (spec.block_backgrounds s e below) (spec.floats e below)
      (spec.inline_context s e below) (spec.block_contents s e below) (spec.zero_layers e below) (spec.positive_layers e below) (spec.outlines s e below)
