use Rattle.std.proofs.Common.{◌≡◌, take}
use Rattle.rd_graph.specs.Gathered.{gathered}
use Rattle.rd_low_tests.proofs.graph.checked.names_at.Given as goal

abbrev pub invariant-loop-place : goal.invariant-loop-place
invariant-loop-place l = record { names : l.names.items ≡ gathered (take l.place-index l.places) l.order }
