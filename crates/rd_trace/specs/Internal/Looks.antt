-- What the walk over a tree gives.
use Rattle.std.specs.Prelude.{Option, List, [], ◌∷◌}
use Rattle.rd_keys.specs.Keys.{BoxKey, same_key}
use Rattle.rd_tree.specs.Forest.{from_some}
use Rattle.rd_tree.specs.Document.{Document}
use Rattle.rd_stack.specs.Paths.{BoxData}
use Rattle.rd_trace.specs.declared.placing.Sight.{Sight}
use Rattle.rd_trace.specs.Ways.{Traced, TracedBox, entry_of}
use Rattle.rd_trace.specs.Traces.{traced_at, traced_below, with_below}

-- a box below others with the leaves that it paints
abbrev pub traced_over : Sight → List BoxData → BoxData → List TracedBox → TracedBox
traced_over s above here below = traced_at s (record { above = above; here = here }) below

-- the boxes from one on, each with the leaves that it paints
abbrev pub traced_from : Sight → List BoxData → Option BoxKey → Document → List TracedBox
traced_from s above first t = traced_below s above (from_some same_key first t.boxes)

-- a box and those below it, from the first child on
abbrev pub with_those_below : Sight → List BoxData → BoxData → Option BoxKey → Document → List TracedBox
with_those_below s above here child t = with_below s above here (traced_from s (here ∷ above) child t)

-- what the first of the boxes paints
abbrev pub first_entry : List TracedBox → List Traced
first_entry [] = []
first_entry (b ∷ bs) = entry_of b
