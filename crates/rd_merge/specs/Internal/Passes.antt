-- A pass over the entries of a kept level.
use Rattle.std.specs.Prelude.{ℕ, Bool, IfSome}
use Rattle.rd_keys.specs.Keys.{BoxKey}
use Rattle.rd_graph.specs.Orders.{Once}
use Rattle.rd_list.specs.KeptView.{kept_entries}
use Rattle.rd_merge.specs.Looking.{kept_names}
use Rattle.rd_merge.specs.Internal.Looks.{IsLookedTo}
use Rattle.rd_merge.specs.Internal.Marks.{AreMarked, ArePagesMarked}
use Rattle.rd_merge.specs.Internal.Sought.{AreChained}
use Rattle.rd_merge.specs.declared.looking.Notes.{Notes}
use Rattle.rd_merge.specs.declared.passing.Pass.{Pass}

-- No name comes twice, in the level and among those that are sought, and the boxes of these are marked.
pub record IsPass {A T : Type 0} (p : Pass A T) : Type 0 where
  pub names_once : Once p.names.now
  pub entries_once : Once (kept_names (kept_entries p.entries.now))
  pub marked : AreMarked p.marks.now.is_wide p.names.now p.marks.now.marks.items
  pub pages_marked : ArePagesMarked p.names.now p.marks.now.pages.pages.items p.marks.now.pages.groups

-- What is to be noted of the first so many entries is.
pub record IsNoted {A T : Type 0} (touched : BoxKey → Bool) (p : Pass A T) (n : ℕ) (notes : Notes) : Type 0 where
  pub looked : IsLookedTo touched p.entries.now p.names.now n notes.looked.gone.items notes.looked.found.items notes.looked.inner.items
  pub chained : IfSome notes.finder.table (λ s. AreChained s.is_wide p.names.now s.lasts.items s.befores.items)
