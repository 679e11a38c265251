use Rattle.std.proofs.Common.{ℕ, ◌<◌, length, take, get_or}
use Rattle.rd_graph.proofs.Lists.Listing.{Has}
use Rattle.rd_graph.proofs.arranging.are_among.Given as goal

abbrev pub invariant-loop-place : goal.invariant-loop-place
invariant-loop-place l = record {
  met : (p : ℕ) → Has (take l.met l.gone) p → Has (take l.place-index l.places) p;
  ahead : l.met < length l.gone → Has (take l.place-index l.places) (get_or l.gone l.met 0) → ⊥;
}
