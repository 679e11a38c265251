-- Parts of lists, by the places of their entries. The form is this project's own.
use Rattle.std.specs.Prelude.{ℕ, zero, suc}
use Rattle.rd_list.specs.Entries.{Entries, nil, leaf, group}

module _ {G L : Type 0} where
  -- this project's own form: how many entries a list has outside groups
  abbrev pub entry_count : Entries G L → ℕ
  entry_count nil = 0
  entry_count (leaf l rest) = suc (entry_count rest)
  entry_count (group g inner rest) = suc (entry_count rest)

  -- this project's own form: the entries of a list from place n on
  abbrev pub entries_from : ℕ → Entries G L → Entries G L
  entries_from zero es = es
  entries_from (suc n) nil = nil
  entries_from (suc n) (leaf l rest) = entries_from n rest
  entries_from (suc n) (group g inner rest) = entries_from n rest
