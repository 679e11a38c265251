-- The boxes of a generated script. Which they are is this project's own choice.
use Rattle.std.specs.Prelude.{ℕ, zero, suc, pos, ◌==◌, nat_lt, nat_le, if◌then◌else◌, List, [], ◌∷◌, ◌++◌, reverse, Some, None, unwrap_or}
use Rattle.rd_geom.specs.declared.rect.Size.{Size}
use Rattle.rd_style.specs.declared.styles.Style.{Style}
use Rattle.rd_style.specs.declared.kinds.Position.TheVariants as position
use Rattle.rd_style.specs.declared.kinds.Overflow.TheVariants as overflow
use Rattle.rd_style.specs.declared.kinds.Display.TheVariants as display
use Rattle.rd_style.specs.declared.kinds.Floating.TheVariants as floating
use Rattle.rd_style.specs.Changes.{plain}
use Rattle.rd_scene.specs.declared.script.SceneBox.{SceneBox}
use Rattle.rd_scene.specs.Order.{depth_of}
use Rattle.rd_gen.specs.Draws.{Drawing, below, give, ◌>>=◌}
use Rattle.rd_gen.specs.Names.{box_id}
use Rattle.rd_gen.specs.Values.{rectangle, color, z_index, opacity}

-- the canvas is 256 pixels wide and high
abbrev pub canvas : Size
canvas = record { w = pos 256; h = pos 256 }

-- the root covers the canvas in white
abbrev pub root : SceneBox
root = record {
  id = box_id 0;
  parent = None;
  rect = record { x = pos 0; y = pos 0; w = pos 256; h = pos 256 };
  style = record plain { background = record { r = 255; g = 255; b = 255; a = 255 } };
}

-- an outline of #ff00ff round a content of #808080
abbrev pub outlined : Style
outlined = record plain {
  outline_width = 2;
  outline_color = record { r = 255; g = 0; b = 255; a = 255 };
  content = Some (record { r = 128; g = 128; b = 128; a = 255 });
}

-- the style of the number k, below 16, but for its background
unfoldable pub style_by : ℕ → Drawing Style
style_by k =
    if nat_lt k 6 then give plain else
    if k == 6 then give (record plain { display = display.Inline }) else
    if k == 7 then give (record plain { display = display.InlineBlock }) else
    if k == 8 then give (record plain { float = floating.Left }) else
    if k == 9 then give (record plain { position = position.Relative }) else
    if k == 10 then (z_index >>= λ z. give (record plain { position = position.Relative; z = Some z })) else
    if k == 11 then give (record plain { position = position.Absolute }) else
    if k == 12 then (opacity 128 >>= λ v. give (record plain { opacity = v })) else
    if k == 13 then give (record plain { overflow = overflow.Hidden }) else
    if k == 14 then give (record plain { border_width = record { top = 2; right = 2; bottom = 2; left = 2 } }) else
    give outlined

-- the style draws: one of sixteen styles, and its background
unfoldable pub style : Drawing Style
style = do
  k ← below 16
  s ← style_by k
  c ← color
  give (record s { background = c })

-- the depth of the box with this number among these, of which the first is the root
abbrev pub depth_at : List SceneBox → ℕ → ℕ
depth_at before p = unwrap_or (depth_of (box_id p) (reverse before)) 0

-- the parent where p was drawn: that box, or the root where the box is at depth 64 or more
abbrev pub parent_by : List SceneBox → ℕ → ℕ
parent_by before p = if nat_le 64 (depth_at before p) then 0 else p

-- the box with the number i, the last child of the box with the number parent
unfoldable pub box_below : ℕ → ℕ → Drawing SceneBox
box_below i parent = do
  r ← rectangle
  s ← style
  give (record { id = box_id i; parent = Some (box_id parent); rect = r; style = s })

-- the box with the number i, after those before it
unfoldable pub box : ℕ → List SceneBox → Drawing SceneBox
box i before = if i == 0 then give root else (below i >>= λ p. box_below i (parent_by before p))

-- so many boxes, in turn
unfoldable pub boxes : ℕ → Drawing (List SceneBox)
boxes zero = give []
boxes (suc i) = do
  before ← boxes i
  b ← box i before
  give (before ++ (b ∷ []))
