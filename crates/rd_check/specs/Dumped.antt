-- Dump texts. All of it is this project's own choice.
use Rattle.std.specs.Prelude.{◌≡◌, ℕ, ◌<◌, ◌≤◌, ◌^◌, true, IsTrue, List}
use Rattle.std.specs.List.{AllByRecursion}
use Rattle.rd_geom.specs.Plane.{IsPlaced}
use Rattle.rd_geom.specs.declared.color.Color.{Color}
use Rattle.rd_list.specs.Entries.{flat, wrappers, list_size, no_group_is_empty}
use Rattle.rd_list.specs.GroupDepth.{group_depth}
use Rattle.rd_tree.specs.Ids.{is_id}
use Rattle.rd_report.specs.Dumps.{NamedItem, NamedGroup, NamedList, dump_lines}

-- channels of 8 bits
pub record IsBytes (c : Color) : Type 0 where
  pub red : c.r < 256
  pub green : c.g < 256
  pub blue : c.b < 256
  pub alpha : c.a < 256

-- an item that a dump may write
pub record IsItem (i : NamedItem) : Type 0 where
  pub id : is_id i.id ≡ true
  pub visible : IsPlaced i.visible
  pub outer : IsPlaced i.shape.outer
  pub inner : IsPlaced i.shape.inner
  pub color : IsBytes i.color
  pub made_at : i.made_at < 2 ^ 64

-- a group that a dump may write
pub record IsGroup (g : NamedGroup) : Type 0 where
  pub id : is_id g.id ≡ true
  pub opacity : g.opacity < 256

-- A list that a dump may write: each group has an entry, and at most 256 groups are round an entry.
-- A text of fewer than 2 ^ 64 bytes has no more entries than `size` says.
pub record IsDumped (list : NamedList) : Type 0 where
  pub items : AllByRecursion IsItem (flat list)
  pub groups : AllByRecursion IsGroup (wrappers list)
  pub filled : IsTrue (no_group_is_empty list)
  pub depth : group_depth list ≤ 256
  pub size : list_size list < 2 ^ 64

-- The text is the dump of the list.
pub record IsDumpOf (text : List ℕ) (list : NamedList) : Type 0 where
  pub dumped : IsDumped list
  pub text_is : text ≡ dump_lines list

-- The text is the dump of a list.
abbrev pub IsDumpText : List ℕ → Type 0
IsDumpText text = (list : NamedList) × IsDumpOf text list
