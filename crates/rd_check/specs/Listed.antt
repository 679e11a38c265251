-- The entries of a list in the order of their lines in a dump. This order is this project's own choice.
use Rattle.std.specs.Prelude.{List, [], ◌∷◌, ◌++◌}
use Rattle.rd_list.specs.Entries.{Entries, nil, leaf, group}

-- an entry, with the groups round it from the outside in
pub data Listed (G L : Type 0) : Type 0 where
  item : List G → L → Listed G L
  head : List G → G → Listed G L

-- the entries of a list below some groups, in the order of their lines
abbrev pub listed : {G L : Type 0} → List G → Entries G L → List (Listed G L)
listed round nil = []
listed round (leaf l rest) = item round l ∷ listed round rest
listed round (group g inner rest) = head round g ∷ listed (round ++ g ∷ []) inner ++ listed round rest

-- the entries of a list, numbered from 0 by their lines
abbrev pub entries_of : {G L : Type 0} → Entries G L → List (Listed G L)
entries_of list = listed [] list
