-- Boxes that paint nothing, and of which only that is kept on which other boxes rest.
-- All of it is this project's own choice.
use Rattle.std.specs.Prelude.{Bool, false, not, ◌&&◌, if◌then◌else◌, [], None}
use Rattle.rd_geom.specs.Plane.{Rectangle, no_pixels}
use Rattle.rd_geom.specs.declared.rect.Sides.{Sides}
use Rattle.rd_style.specs.declared.styles.Style.{Style}
use Rattle.rd_style.specs.declared.kinds.Visibility.TheVariants as visibility
use Rattle.rd_style.specs.declared.kinds.Pointer.TheVariants as pointer
use Rattle.rd_style.specs.Classes.{clips}
use Rattle.rd_style.specs.Changes.{black, transparent}
use Rattle.rd_keys.specs.Keys.{BoxKey}
use Rattle.rd_tree.specs.Forest.{empty, tree}
use Rattle.rd_tree.specs.declared.node.Item.{Item}
use Rattle.rd_tree.specs.Document.{BoxForest}

-- no widths.
abbrev pub no_sides : Sides
no_sides = record { top = 0; right = 0; bottom = 0; left = 0 }

-- a hidden style, with the members from which classes, levels, groups and clips follow.
abbrev pub bare_style : Bool → Bool → Style → Style
bare_style gone root s = record {
  position = s.position;
  z = s.z;
  opacity = s.opacity;
  overflow = s.overflow;
  display = s.display;
  float = s.float;
  background = if gone then transparent else s.background;
  border_width = if gone && not (clips s root) then no_sides else s.border_width;
  border_color = if gone then black else s.border_color;
  content = if gone then None else s.content;
  outline_width = if gone then 0 else s.outline_width;
  outline_color = if gone then black else s.outline_color;
  visibility = if gone then visibility.Hidden else s.visibility;
  pointer = if gone then pointer.Off else s.pointer;
  blend = s.blend;
  isolation = s.isolation;
}

-- a rectangle that counts where the box clips.
abbrev pub bare_rect : Bool → Bool → Style → Rectangle → Rectangle
bare_rect gone root s r = if gone && not (clips s root) then no_pixels else r

-- a box that is gone without what it alone paints, its id and its mark.
abbrev pub bare_item : Bool → Bool → Item → Item
bare_item gone root d = record { id = if gone then [] else d.id; rect = bare_rect gone root d.style d.rect; style = bare_style gone root d.style; scroll = d.scroll; touched = not gone && d.touched }

module _ (gone : BoxKey → Bool) where
  -- the boxes, of which the first ones are roots or not.
  abbrev pub bare : Bool → BoxForest → BoxForest
  bare root empty = empty
  bare root (tree k d below rest) = tree k (bare_item (gone k) root d) (bare false below) (bare root rest)
