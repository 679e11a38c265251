-- What a list that is put together of lists stores.
use Rattle.std.specs.Prelude.{ℕ, ◌+◌, ◌≡◌, false, List, [], ◌∷◌}
use Rattle.rd_item.specs.Items.{Made}
use Rattle.rd_list.specs.Wrappers.{Wrapper}
use Rattle.rd_list.specs.Entries.{is_empty}
use Rattle.rd_list.specs.NewView.{new_entries}
use Rattle.rd_list.specs.Nested.{Nested, on_top, list_then, laid_out}
use Rattle.rd_list.specs.declared.fresh.NewEntry.{NewEntry}

-- the lists below and the run on top, as plain data
abbrev pub piled : {A : Type 0} → List (Nested Wrapper Made) → List (NewEntry A) → Nested Wrapper Made
piled [] top = on_top (new_entries top)
piled (inner ∷ rest) top = list_then inner (piled rest top)

module _ {G L : Type 0} where
  -- how many lists there are in it
  abbrev pub nested_size : Nested G L → ℕ
  nested_size (on_top run) = 0
  nested_size (list_then inner rest) = 1 + (nested_size inner + nested_size rest)

  -- no list in it is empty, but for what is on top
  abbrev pub IsFilled : Nested G L → Type 0
  IsFilled (on_top run) = Unit {0}
  IsFilled (list_then inner rest) = (is_empty (laid_out inner) ≡ false) × IsFilled rest
