use Rattle.std.proofs.Common.{◌≡◌, ◌+◌, ◌-◌, ◌*◌}
use Rattle.rd_wire.specs.Internal.Listed.{listed}
use Rattle.rd_wire.specs.Internal.LevelReading.{inside_at, entries_at}
use Rattle.rd_wire.proofs.Going.{with_front}
use Rattle.rd_wire.proofs.reading.+reading.Given as goal

abbrev pub decreases-entry : goal.decreases-entry
decreases-entry l = 8 * l.groups + 5

abbrev pub decreases-behind : goal.decreases-behind
decreases-behind l = 8 * l.groups + 4

abbrev pub decreases-group : goal.decreases-group
decreases-group l = 8 * l.groups + 3

abbrev pub decreases-inside : goal.decreases-inside
decreases-inside l = 8 * l.groups + 2

abbrev pub decreases-level : goal.decreases-level
decreases-level l = 8 * l.groups + 7

abbrev pub decreases-entries : goal.decreases-entries
decreases-entries l = 8 * l.groups + 6

abbrev pub invariant-entries-loop : goal.invariant-entries-loop
invariant-entries-loop l = with_front (listed l.entries.items) (entries_at l.canvas (inside_at l.canvas l.groups) (l.count - l.counter) l.rest) ≡ entries_at l.canvas (inside_at l.canvas l.groups) l.count l.bytes
