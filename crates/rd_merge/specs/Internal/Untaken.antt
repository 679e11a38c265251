-- The entries of a new list that are not taken yet.
use Rattle.std.specs.Prelude.{◌≡◌, []}
use Rattle.std.specs.Vec.Iter.{into_iter_items}
use Rattle.rd_item.specs.Items.{Made}
use Rattle.rd_list.specs.Wrappers.{Wrapper}
use Rattle.rd_list.specs.Entries.{Entries, ◌▷◌}
use Rattle.rd_list.specs.NewView.{new_entries, in_runs}
use Rattle.rd_merge.specs.declared.taking.NewEntries.{NewEntries}

-- what is left of a run, and the runs after it
abbrev pub untaken : {A : Type 0} → NewEntries A → Entries Wrapper Made
untaken e = new_entries (into_iter_items e.run) ▷ in_runs (into_iter_items e.after)

-- nothing is left of a run only where no run is after it
abbrev pub IsTurned : {A : Type 0} → NewEntries A → Type 0
IsTurned e = into_iter_items e.run ≡ [] → into_iter_items e.after ≡ []
