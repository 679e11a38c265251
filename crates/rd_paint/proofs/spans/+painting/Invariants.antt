use Rattle.std.proofs.Common.{◌≡◌, take, ◌+◌, ◌*◌, ◌∷◌, []}
use Rattle.rd_list.specs.Displayed.{shown}
use Rattle.rd_list.specs.Entries.{list_size}
use Rattle.rd_list.specs.KeptView.{kept_entries}
use Rattle.rd_paint.specs.Internal.Runs.{laid_along}
use Rattle.rd_paint.proofs.spans.+painting.Given as goal

abbrev pub invariant-lay_all-loop-entry : goal.invariant-lay_all-loop-entry
invariant-lay_all-loop-entry g l = l.out ≡ laid_along l.y l.x0 (shown (take l.entry-index l.entries)) l.initial.out

abbrev pub decreases-lay_all : goal.decreases-lay_all
decreases-lay_all g l = 4 * list_size (kept_entries l.entries.now) + 1

abbrev pub decreases-lay_one : goal.decreases-lay_one
decreases-lay_one g l = 4 * list_size (kept_entries (l.entry.now ∷ []))

abbrev pub decreases-lay_group : goal.decreases-lay_group
decreases-lay_group g l = 4 * list_size l.group.now.inner.entries + 2
