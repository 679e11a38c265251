-- A list as C is told it: each entry before those of its group. The form is this project's own choice.
use Rattle.std.specs.Prelude.{ℕ, pos, ◌+◌, List, [], ◌∷◌, ◌++◌, Bool, true, false}
use Rattle.rd_geom.specs.Plane.{Rectangle}
use Rattle.rd_geom.specs.declared.blend.Blend.{Blend}
use Rattle.rd_geom.specs.declared.blend.Blend.TheVariants.{Normal, Multiply, Screen, Darken, Lighten}
use Rattle.rd_geom.specs.declared.color.Color.{Color}
use Rattle.rd_item.specs.Items.{Made}
use Rattle.rd_keys.specs.declared.entry.EntryKey.{EntryKey}
use Rattle.rd_keys.specs.declared.entry.Part.{Part}
use Rattle.rd_keys.specs.declared.entry.Part.TheVariants.{Back, Border, Content, Outline}
use Rattle.rd_list.specs.Entries.{Entries, nil, leaf, group}
use Rattle.rd_list.specs.Kept.{Ordered}
use Rattle.rd_list.specs.Wrappers.{Wrapper}
use Rattle.rd_c.specs.declared.listing.RdEntry.{RdEntry}
use Rattle.rd_c.specs.declared.values.RdColor.{RdColor}
use Rattle.rd_c.specs.declared.values.RdRect.{RdRect}

-- the number of a part of a box
abbrev pub number_of_part : Part → ℕ
number_of_part Back = 0
number_of_part Border = 1
number_of_part Content = 2
number_of_part Outline = 3

-- the number of a blend mode, as in a style
abbrev pub number_of_mode : Blend → ℕ
number_of_mode Normal = 0
number_of_mode Multiply = 1
number_of_mode Screen = 2
number_of_mode Darken = 3
number_of_mode Lighten = 4

-- 1 or 0
abbrev pub number_of_flag : Bool → ℕ
number_of_flag false = 0
number_of_flag true = 1

-- the same corner and sides
abbrev pub told_rect : Rectangle → RdRect
told_rect r = record { x = r.x; y = r.y; w = r.w; h = r.h }

-- the same channels
abbrev pub told_color : Color → RdColor
told_color c = record { r = c.r; g = c.g; b = c.b; a = c.a }

-- no rectangle and no colour, where an entry has none
abbrev pub no_rect : RdRect
no_rect = record { x = pos 0; y = pos 0; w = pos 0; h = pos 0 }

abbrev pub no_color : RdColor
no_color = record { r = 0; g = 0; b = 0; a = 0 }

-- a leaf
abbrev pub told_leaf : Made → RdEntry
told_leaf m = record {
  made_at = m.made_at;
  entries = 0;
  slot = m.leaf.owner.slot;
  generation = m.leaf.owner.generation;
  visible = told_rect m.leaf.visible;
  outer = told_rect m.leaf.shape.outer;
  inner = told_rect m.leaf.shape.inner;
  color = told_color m.leaf.color;
  kind = number_of_part m.leaf.part;
  hits = number_of_flag m.leaf.hits;
  opacity = 255;
  blend = 0;
}

-- a group of so many entries
abbrev pub told_group : Wrapper → ℕ → RdEntry
told_group g count = record {
  made_at = 0;
  entries = count;
  slot = g.key.slot;
  generation = g.key.generation;
  visible = no_rect;
  outer = no_rect;
  inner = no_rect;
  color = no_color;
  kind = 4;
  hits = 0;
  opacity = g.opacity;
  blend = number_of_mode g.blend;
}

-- how many entries a level has, without those of its groups
abbrev pub count_of : {G L : Type 0} → Entries G L → ℕ
count_of nil = 0
count_of (leaf l rest) = count_of rest + 1
count_of (group g inner rest) = count_of rest + 1

-- each entry in order, a group right before its own entries
abbrev pub listed : Entries (Ordered EntryKey Wrapper) Made → List RdEntry
listed nil = []
listed (leaf m rest) = told_leaf m ∷ listed rest
listed (group g inner rest) = told_group g.of (count_of inner) ∷ (listed inner ++ listed rest)
