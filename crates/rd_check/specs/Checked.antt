-- What a check says of a dump and a tree. All of it is this project's own choice.
use Rattle.std.specs.Prelude.{◌≡◌, ℕ, List, map, Some, None, unwrap_or, slice_get}
use Rattle.rd_keys.specs.Keys.{BoxKey}
use Rattle.rd_item.specs.declared.leaf.Leaf.{Leaf}
use Rattle.rd_list.specs.Wrappers.{Wrapper}
use Rattle.rd_list.specs.Entries.{Entries, nil, leaf, group}
use Rattle.rd_list.specs.Lists.{StandsFor}
use Rattle.rd_tree.specs.Document.{Document, named}
use Rattle.rd_stack.specs.Fresh.{fresh_list}
use Rattle.rd_report.specs.Dumps.{NamedItem, NamedGroup, NamedList}
use Rattle.rd_check.specs.Dumped.{IsDumpOf}
use Rattle.rd_check.specs.Listed.{Listed, item, head, entries_of}
use Rattle.rd_check.specs.Verdicts.{IsFirst, Never, Says}
use Rattle.rd_check.specs.declared.verdict.Verdict.{Verdict}
use Rattle.rd_check.specs.declared.verdict.Verdict.TheVariants.{Unknown, Yes}

-- the id that an entry's line has
abbrev pub id_at : Listed NamedGroup NamedItem → List ℕ
id_at (item round i) = i.id
id_at (head round g) = g.id

-- the ids of the entries
abbrev pub ids_of : NamedList → List (List ℕ)
ids_of list = map id_at (entries_of list)

-- The entry's id is that of no box.
abbrev pub IsUnknown : Document → NamedList → ℕ → Type 0
IsUnknown t list i = (id : List ℕ) × (slice_get (ids_of list) i ≡ Some id) × (named id t.boxes ≡ None)

-- the box with an id, where there is one
abbrev pub key_of : Document → List ℕ → BoxKey
key_of t id = unwrap_or (named id t.boxes) t.root

-- the leaf of an item whose id is that of a box
abbrev pub leaf_of_item : Document → NamedItem → Leaf
leaf_of_item t i = record {
  owner = key_of t i.id;
  part = i.part;
  visible = i.visible;
  shape = i.shape;
  color = i.color;
  hits = i.hits;
}

-- the group whose id is that of a box
abbrev pub wrapper_of : Document → NamedGroup → Wrapper
wrapper_of t g = record { key = key_of t g.id; opacity = g.opacity; blend = g.blend }

-- a dumped list whose ids are those of boxes, by their keys
abbrev pub keyed : Document → NamedList → Entries Wrapper Leaf
keyed t nil = nil
keyed t (leaf i rest) = leaf (leaf_of_item t i) (keyed t rest)
keyed t (group g inner rest) = group (wrapper_of t g) (keyed t inner) (keyed t rest)

-- the verdict of a dumped list
abbrev pub IsVerdict : Document → NamedList → Verdict → Type 0
IsVerdict t list (Unknown i) = IsFirst (IsUnknown t list) i
IsVerdict t list v = Never (IsUnknown t list) × Says (keyed t list) (fresh_list t) v

-- The verdict is right, and `Yes` comes wherever the dumped list stands for the fresh one.
pub record IsChecked (text : List ℕ) (t : Document) (v : Verdict) : Type 0 where
  pub list : NamedList
  pub dump : IsDumpOf text list
  pub verdict : IsVerdict t list v
  pub yes : Never (IsUnknown t list) → StandsFor (keyed t list) (fresh_list t) → v ≡ Yes
