-- Names by their marks, which names may share.
use Rattle.std.specs.Prelude.{◌≡◌, ℕ, zero, suc, ◌<◌, ◌%◌, ◌==◌, Bool, true, false, if◌then◌else◌, List, length, map, slice_index_or}
use Rattle.rd_keys.specs.declared.entry.EntryKey.{EntryKey}
use Rattle.rd_keys.specs.declared.entry.EntryKey.TheVariants as key

-- how many marks there are
abbrev pub mark_count : Bool → ℕ
mark_count true = 2048
mark_count false = 256

-- where a name has its mark
abbrev pub mark_of : Bool → EntryKey → ℕ
mark_of wide (key.Leaf k p) = k.slot % mark_count wide
mark_of wide (key.Group k) = k.slot % mark_count wide

abbrev pub marks_of : Bool → List EntryKey → List ℕ
marks_of wide names = map (mark_of wide) names

-- the number of the last of the first n names that stand at a mark; zero where none does
abbrev pub last_at : List ℕ → ℕ → ℕ → ℕ
last_at marks zero m = 0
last_at marks (suc n) m = if slice_index_or marks n 0 == m then suc n else last_at marks n m

-- the last name at each mark, and for each name the one before it at its mark
pub record AreChained (wide : Bool) (names : List EntryKey) (lasts befores : List ℕ) : Type 0 where
  pub lasts_are : (k : EntryKey) → slice_index_or lasts (mark_of wide k) 0 ≡ last_at (marks_of wide names) (length names) (mark_of wide k)
  pub size : length befores ≡ length names
  pub befores_are : (i : ℕ) → i < length names → slice_index_or befores i 0 ≡ last_at (marks_of wide names) i (slice_index_or (marks_of wide names) i 0)
