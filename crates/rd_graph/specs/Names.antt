-- When two entries of a list have one name, when a name is in a list, and where.
use Rattle.std.specs.Prelude.{ℕ, ◌+◌, Bool, true, false, ◌&&◌, if◌then◌else◌, List, [], ◌∷◌, Option, Some, None}
use Rattle.rd_keys.specs.Keys.{same_key}
use Rattle.rd_keys.specs.declared.entry.EntryKey.{EntryKey}
use Rattle.rd_keys.specs.declared.entry.EntryKey.TheVariants as key
use Rattle.rd_keys.specs.declared.entry.Part.{Part}
use Rattle.rd_keys.specs.declared.entry.Part.TheVariants.{Back, Border, Content, Outline}

-- are two parts the same?
abbrev pub same_part : Part → Part → Bool
same_part Back Back = true
same_part Border Border = true
same_part Content Content = true
same_part Outline Outline = true
same_part _ _ = false

-- do two entries have one name?
abbrev pub same_entry : EntryKey → EntryKey → Bool
same_entry (key.Leaf k p) (key.Leaf j q) = same_key k j && same_part p q
same_entry (key.Leaf k p) (key.Group j) = false
same_entry (key.Group k) (key.Leaf j q) = false
same_entry (key.Group k) (key.Group j) = same_key k j

-- one place further
abbrev pub next_place : Option ℕ → Option ℕ
next_place None = None
next_place (Some n) = Some (n + 1)

module _ {E : Type 0} (same : E → E → Bool) where
  -- is it in the list?
  abbrev pub is_in : List E → E → Bool
  is_in [] k = false
  is_in (x ∷ xs) k = if same x k then true else is_in xs k

  -- its first place there
  abbrev pub place_of : List E → E → Option ℕ
  place_of [] k = None
  place_of (x ∷ xs) k = if same x k then Some 0 else next_place (place_of xs k)
