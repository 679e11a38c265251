-- What a dump writes. The format is this project's own choice.
use Rattle.std.specs.Prelude.{ℕ, ◌+◌, Bool, List, [], ◌∷◌, ◌++◌, length, codes, decimal}
use Rattle.rd_geom.specs.Plane.{Rectangle}
use Rattle.rd_geom.specs.declared.color.Color.{Color}
use Rattle.rd_geom.specs.declared.blend.Blend.{Blend}
use Rattle.rd_keys.specs.declared.entry.Part.{Part}
use Rattle.rd_item.specs.declared.leaf.Shape.{Shape}
use Rattle.rd_item.specs.Items.{Made}
use Rattle.rd_list.specs.Wrappers.{Wrapper}
use Rattle.rd_list.specs.Entries.{Entries, nil, leaf, group, flat}
use Rattle.rd_tree.specs.Document.{BoxForest}
use Rattle.rd_report.specs.Words.{line, id_text, part_text, shape_text, color_text, mode_text, pointer_text}

-- an item, its box named by an id
pub record NamedItem : Type 0 where
  pub id : List ℕ
  pub part : Part
  pub visible : Rectangle
  pub shape : Shape
  pub color : Color
  pub hits : Bool
  pub made_at : ℕ

-- all that is said of a group but for its own list, its box named by an id
pub record NamedGroup : Type 0 where
  pub id : List ℕ
  pub opacity : ℕ
  pub blend : Blend

-- a list whose boxes are named by ids
abbrev pub NamedList : Type 0
NamedList = Entries NamedGroup NamedItem

-- how many leaves and groups stand directly in a list
abbrev pub width : {G L : Type 0} → Entries G L → ℕ
width nil = 0
width (leaf i rest) = width rest + 1
width (group g inner rest) = width rest + 1

-- an item below so many groups
abbrev pub item_line : ℕ → NamedItem → List ℕ
item_line depth i =
    line (codes "item" ∷ decimal depth ∷ i.id ∷ part_text i.part ∷ shape_text i.visible i.shape ∷ color_text i.color
    ∷ pointer_text i.hits ∷ decimal i.made_at ∷ [])

-- a group below so many groups, with its opacity, the number of its own entries, and its blend mode where that is not normal
abbrev pub group_line : ℕ → NamedGroup → ℕ → List ℕ
group_line depth g entries =
    line (codes "group" ∷ decimal depth ∷ g.id ∷ decimal g.opacity ∷ (decimal entries ++ mode_text g.blend) ∷ [])

-- a line for each entry in order, those of a group after the group's own
abbrev pub lines : ℕ → NamedList → List ℕ
lines depth nil = []
lines depth (leaf i rest) = item_line depth i ++ lines depth rest
lines depth (group g inner rest) =
    group_line depth g (width inner) ++ lines (depth + 1) inner ++ lines depth rest

-- what a dump writes: the number of items, and the lines of all entries
abbrev pub dump_lines : NamedList → List ℕ
dump_lines list = line (codes "dump" ∷ decimal (length (flat list)) ∷ []) ++ lines 0 list

module _ (boxes : BoxForest) where
  -- an item by the id of its box
  abbrev pub named_item : Made → NamedItem
  named_item i = record {
    id = id_text i.leaf.owner boxes;
    part = i.leaf.part;
    visible = i.leaf.visible;
    shape = i.leaf.shape;
    color = i.leaf.color;
    hits = i.leaf.hits;
    made_at = i.made_at;
  }

  -- a group by the id of its box
  abbrev pub named_group : Wrapper → NamedGroup
  named_group g = record { id = id_text g.key boxes; opacity = g.opacity; blend = g.blend }

  -- a list by the ids of its boxes
  abbrev pub named_list : Entries Wrapper Made → NamedList
  named_list nil = nil
  named_list (leaf i rest) = leaf (named_item i) (named_list rest)
  named_list (group g inner rest) = group (named_group g) (named_list inner) (named_list rest)
