use Rattle.std.proofs.Common.{◌≡◌, ◌-◌, ◌≤◌, length, get_or}
use Rattle.rd_graph.specs.Internal.Patching.{lists_seen}
use Rattle.rd_graph.specs.Internal.Seen.{seen}
use Rattle.rd_graph.specs.Internal.Tables.{has_it}
use Rattle.rd_graph.specs.Internal.Words.{noted_by}
use Rattle.rd_graph.proofs.Patches.Late.{SoFar}
use Rattle.rd_graph.proofs.Patches.Quiet.{HasMet}
use Rattle.rd_graph.proofs.changing.pass_all.Given as goal

abbrev pub decreases-loop-place : goal.decreases-loop-place
decreases-loop-place l = length l.nodes - l.place

abbrev pub invariant-loop-place : goal.invariant-loop-place
invariant-loop-place l = record {
  after : get_or l.places 0 (length l.nodes) ≤ l.place;
  met : HasMet l.places l.place l.met;
  size : length l.notes.items ≡ length l.places;
  so_far : SoFar (has_it l.gone.names) (seen l.nodes) (noted_by l.gone.names l.notes.items) (lists_seen l.lists.items) l.place;
}
