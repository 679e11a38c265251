-- The way of a leaf through the painting order. The form of it is this project's own choice.
use Rattle.std.specs.Prelude.{ℤ, pos, Bool, not, ◌&&◌, if◌then◌else◌, List, [], ◌∷◌, ◌++◌, map, Option, Some, None}
use Rattle.rd_item.specs.declared.leaf.Leaf.{Leaf}
use Rattle.rd_keys.specs.Keys.{BoxKey}
use Rattle.rd_list.specs.Wrappers.{Wrapper}
use Rattle.rd_list.specs.Lists.{is_outline}
use Rattle.rd_style.specs.Classes.{level}
use Rattle.rd_stack.specs.Paths.{BoxPath, is_root}
use Rattle.rd_stack.specs.Painting.{stack_level, wrapper_of}
use Rattle.rd_trace.specs.declared.placing.PaintStep.{PaintStep}
use Rattle.rd_trace.specs.declared.placing.Placing.{Placing}

-- A leaf, the places that put it where it is, and the groups round it, both from its own box outwards to the root.
pub record Traced : Type 0 where
  pub leaf : Leaf
  pub way : List Placing
  pub groups : List Wrapper

-- a box with the leaves that it paints, from bottom to top, and whether that is one group
pub record TracedBox : Type 0 where
  pub at : BoxPath
  pub order : List Traced
  pub grouped : Bool

-- CSS 2.2 section 9.9.1: the stack level of a box where it stands
abbrev pub level_at : BoxPath → ℤ
level_at x = stack_level (level x.here.style (is_root x))

-- The box x, in the line of c or c itself, is painted in this step of e. It is no layer there.
abbrev pub placing : PaintStep → BoxPath → BoxPath → BoxPath → Placing
placing step e c x =
    record { step = step; context = e.here.key; line = c.here.key; of = x.here.key; level = pos 0 }

-- The box x is painted in this step of e. It is no layer there.
abbrev pub place : PaintStep → BoxPath → BoxPath → Placing
place step e x = placing step e x x

-- The layer x of e is painted in this step of e, at its level.
abbrev pub layer_place : PaintStep → BoxPath → BoxPath → Placing
layer_place step e x = record (place step e x) { level = level_at x }

-- a leaf at its first place
abbrev pub at_first : Placing → Leaf → Traced
at_first w l = record { leaf = l; way = w ∷ []; groups = [] }

-- a leaf one place further out
abbrev pub passes : Placing → Traced → Traced
passes w t = record t { way = t.way ++ w ∷ [] }

-- leaves one place further out
abbrev pub passed : Placing → List Traced → List Traced
passed w ts = map (passes w) ts

-- a leaf in one group more
abbrev pub within : Wrapper → Traced → Traced
within g t = record t { groups = t.groups ++ g ∷ [] }

-- CSS Color 3 section 3.2: a box that is grouped is composed as one group
abbrev pub entry_of : TracedBox → List Traced
entry_of x = if x.grouped then map (within (wrapper_of x.at)) x.order else x.order

-- CSS 2.2 section 18.4: a leaf that covers a pixel takes the hit there, if nothing above it does; outlines take none
abbrev pub takes_hit : Traced → Bool
takes_hit t = not (is_outline t.leaf.part) && t.leaf.hits

-- the box of the first leaf that takes the hit, of leaves from the topmost on
abbrev pub hit_of : List Traced → Option BoxKey
hit_of [] = None
hit_of (t ∷ ts) = if takes_hit t then Some t.leaf.owner else hit_of ts
