-- The pixels that are painted anew. All of it is this project's own choice.
use Rattle.std.specs.Prelude.{ℤ, Bool, ◌&&◌, ◌||◌}
use Rattle.std.specs.List.{list_any}
use Rattle.rd_geom.specs.Plane.{holds_pixel}
use Rattle.rd_geom.specs.Canvas.{canvas_of}
use Rattle.rd_keys.specs.Keys.{BoxKey}
use Rattle.rd_item.specs.declared.leaf.Leaf.{Leaf}
use Rattle.rd_list.specs.Wrappers.{Wrapper}
use Rattle.rd_list.specs.Entries.{Entries, flat}
use Rattle.rd_tree.specs.Document.{Document, is_touched}
use Rattle.rd_stack.specs.Fresh.{fresh_list}

-- is the pixel at x, y in the visible rectangle of the leaf, and its box touched?
abbrev pub shows_touched : (BoxKey → Bool) → ℤ → ℤ → Leaf → Bool
shows_touched touched x y l = touched l.owner && holds_pixel l.visible x y

-- is there such a leaf in a list?
abbrev pub any_shows : Document → Entries Wrapper Leaf → ℤ → ℤ → Bool
any_shows t list x y = list_any (shows_touched (λ k. is_touched k t.boxes) x y) (flat list)

-- is the pixel on the canvas, and is there such a leaf in the list that was painted before or in that of the tree now?
abbrev pub is_invalid : Document → Entries Wrapper Leaf → ℤ → ℤ → Bool
is_invalid t painted x y = holds_pixel (canvas_of t.canvas) x y && (any_shows t painted x y || any_shows t (fresh_list t) x y)
