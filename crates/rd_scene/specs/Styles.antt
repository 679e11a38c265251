-- Styles as a script writes them. Which members there are, and in which order they are read, is this project's own
-- choice.
use Rattle.std.specs.Prelude.{ℕ, ℤ, pos, negsuc, Bool, false, if◌then◌else◌, List, [], ◌∷◌, ◌++◌, codes, bytes_eq, Option, Some, None, unsigned_abs}
use Rattle.serde_json.specs.Data.{Data}
use Rattle.serde_json.specs.Find.{get, as_str}
use Rattle.rd_geom.specs.declared.color.Color.{Color}
use Rattle.rd_geom.specs.declared.rect.Sides.{Sides}
use Rattle.rd_geom.specs.declared.blend.Blend.{Blend}
use Rattle.rd_geom.specs.declared.blend.Blend.TheVariants as blend
use Rattle.rd_style.specs.declared.styles.Style.{Style}
use Rattle.rd_style.specs.declared.styles.StyleChange.{StyleChange}
use Rattle.rd_style.specs.declared.kinds.Position.{Position}
use Rattle.rd_style.specs.declared.kinds.Position.TheVariants as position
use Rattle.rd_style.specs.declared.kinds.Overflow.{Overflow}
use Rattle.rd_style.specs.declared.kinds.Overflow.TheVariants as overflow
use Rattle.rd_style.specs.declared.kinds.Display.{Display}
use Rattle.rd_style.specs.declared.kinds.Display.TheVariants as display
use Rattle.rd_style.specs.declared.kinds.Floating.{Floating}
use Rattle.rd_style.specs.declared.kinds.Floating.TheVariants as floating
use Rattle.rd_style.specs.declared.kinds.Visibility.{Visibility}
use Rattle.rd_style.specs.declared.kinds.Visibility.TheVariants as visibility
use Rattle.rd_style.specs.declared.kinds.Pointer.{Pointer}
use Rattle.rd_style.specs.declared.kinds.Pointer.TheVariants as pointer
use Rattle.rd_style.specs.declared.kinds.Isolation.{Isolation}
use Rattle.rd_style.specs.declared.kinds.Isolation.TheVariants as isolation
use Rattle.rd_style.specs.Changes.{plain, changed, nothing_named}
use Rattle.rd_scene.specs.declared.fault.Why.{Why}
use Rattle.rd_scene.specs.declared.fault.Why.TheVariants as why
use Rattle.rd_scene.specs.declared.version.Version.{Version}
use Rattle.rd_scene.specs.declared.version.Version.TheVariants.{One, Two}
use Rattle.rd_scene.specs.Checked.{Checked, good, ◌⊛◌, ◌>>=◌}
use Rattle.rd_scene.specs.Members.{there, members, known, if_given, string, number}
use Rattle.rd_scene.specs.Colors.{color_of, content_of}
use Rattle.rd_scene.specs.Rects.{sides_of, outline_width_of}

-- what a word stands for in a list of words
abbrev pub meaning : {A : Type 0} → List (List ℕ × A) → List ℕ → Option A
meaning [] w = None
meaning (e ∷ es) w = if bytes_eq w e.0 then Some e.1 else meaning es w

-- one of these words
abbrev pub word_of : {A : Type 0} → List (List ℕ × A) → Data → Checked Why A
word_of words d = string d >>= λ w. there why.Kind (meaning words w)

-- CSS 2.2 section 9.3.1: `position`
abbrev pub position_of : Data → Checked Why Position
position_of = word_of ((codes "static", position.Static) ∷ (codes "relative", position.Relative)
    ∷ (codes "absolute", position.Absolute) ∷ (codes "fixed", position.Fixed) ∷ [])

-- Is this the word `auto`?
abbrev pub is_auto : Option (List ℕ) → Bool
is_auto None = false
is_auto (Some w) = bytes_eq w (codes "auto")

-- CSS 2.2 section 9.9.1: `z-index`, `auto` or a whole number, here of 32 bits; None is auto
abbrev pub z_of : Data → Checked Why (Option ℤ)
z_of d = if is_auto (as_str d) then good None else (number (negsuc 2147483647) (pos 2147483647) d >>= λ z. good (Some z))

-- CSS Color 3 section 3.2: `opacity`, here of 8 bits
abbrev pub opacity_of : Data → Checked Why ℕ
opacity_of d = number (pos 0) (pos 255) d >>= λ z. good (unsigned_abs z)

-- CSS 2.2 section 11.1.1: `overflow`
abbrev pub overflow_of : Data → Checked Why Overflow
overflow_of = word_of ((codes "visible", overflow.Visible) ∷ (codes "hidden", overflow.Hidden)
    ∷ (codes "scroll", overflow.Scroll) ∷ (codes "auto", overflow.Auto) ∷ [])

-- CSS 2.2 section 9.2.4: `display`, as far as a box here has it
abbrev pub display_of : Data → Checked Why Display
display_of = word_of ((codes "block", display.Block) ∷ (codes "inline", display.Inline)
    ∷ (codes "inline-block", display.InlineBlock) ∷ [])

-- CSS 2.2 section 9.5.1: `float`
abbrev pub float_of : Data → Checked Why Floating
float_of = word_of ((codes "none", floating.No) ∷ (codes "left", floating.Left) ∷ (codes "right", floating.Right) ∷ [])

-- CSS 2.2 section 11.2: `visibility`
abbrev pub visibility_of : Data → Checked Why Visibility
visibility_of = word_of ((codes "visible", visibility.Visible) ∷ (codes "hidden", visibility.Hidden)
    ∷ (codes "collapse", visibility.Collapse) ∷ [])

-- whether a pointer hits the box
abbrev pub pointer_of : Data → Checked Why Pointer
pointer_of = word_of ((codes "auto", pointer.Auto) ∷ (codes "none", pointer.Off) ∷ [])

-- CSS Compositing 1 section 3.4.1: `mix-blend-mode`, as far as a box here has it
abbrev pub blend_of : Data → Checked Why Blend
blend_of = word_of ((codes "normal", blend.Normal) ∷ (codes "multiply", blend.Multiply) ∷ (codes "screen", blend.Screen)
    ∷ (codes "darken", blend.Darken) ∷ (codes "lighten", blend.Lighten) ∷ [])

-- CSS Compositing 1 section 3.4.2: `isolation`
abbrev pub isolation_of : Data → Checked Why Isolation
isolation_of = word_of ((codes "auto", isolation.Auto) ∷ (codes "isolate", isolation.Isolate) ∷ [])

-- a change that names members that place a box
unfoldable pub placing : Option Position → Option (Option ℤ) → Option ℕ → Option Overflow → Option Display → Option Floating → StyleChange
placing p z o v d f = record nothing_named { position = p; z = z; opacity = o; overflow = v; display = d; float = f }

-- a change that names members that a box is painted with
unfoldable pub painting : Option Color → Option Sides → Option Color → Option (Option Color) → Option ℕ → Option Color → StyleChange
painting b w c t n o =
    record nothing_named { background = b; border_width = w; border_color = c; content = t; outline_width = n; outline_color = o }

-- a change that names members that blend a box
unfoldable pub blending : Option Blend → Option Isolation → StyleChange
blending m i = record nothing_named { blend = m; isolation = i }

-- what the first change names of placing, the second of painting, then these two, and the last of blending
unfoldable pub joined : StyleChange → StyleChange → Option Visibility → Option Pointer → StyleChange → StyleChange
joined c p v h b = record c {
  background = p.background;
  border_width = p.border_width;
  border_color = p.border_color;
  content = p.content;
  outline_width = p.outline_width;
  outline_color = p.outline_color;
  visibility = v;
  pointer = h;
  blend = b.blend;
  isolation = b.isolation;
}

-- the members that place a box
unfoldable pub placing_of : Data → Checked Why StyleChange
placing_of d =
    good placing
    ⊛ if_given position_of (codes "position") d
    ⊛ if_given z_of (codes "z-index") d
    ⊛ if_given opacity_of (codes "opacity") d
    ⊛ if_given overflow_of (codes "overflow") d
    ⊛ if_given display_of (codes "display") d
    ⊛ if_given float_of (codes "float") d

-- the members that a box is painted with
unfoldable pub painting_of : Data → Checked Why StyleChange
painting_of d =
    good painting
    ⊛ if_given color_of (codes "background") d
    ⊛ if_given sides_of (codes "border-width") d
    ⊛ if_given color_of (codes "border-color") d
    ⊛ if_given content_of (codes "content") d
    ⊛ if_given outline_width_of (codes "outline-width") d
    ⊛ if_given color_of (codes "outline-color") d

-- the members that blend a box, which came with version 2
unfoldable pub blending_of : Version → Data → Checked Why StyleChange
blending_of One d = good nothing_named
blending_of Two d =
    good blending
    ⊛ if_given blend_of (codes "mix-blend-mode") d
    ⊛ if_given isolation_of (codes "isolation") d

-- the names of the members that both versions have
abbrev pub first_names : List (List ℕ)
first_names =
    codes "position" ∷ codes "z-index" ∷ codes "opacity" ∷ codes "overflow" ∷ codes "display" ∷ codes "float"
    ∷ codes "background" ∷ codes "border-width" ∷ codes "border-color" ∷ codes "content" ∷ codes "outline-width"
    ∷ codes "outline-color" ∷ codes "visibility" ∷ codes "pointer-events" ∷ []

-- the names of all members
abbrev pub style_names : Version → List (List ℕ)
style_names One = first_names
style_names Two = first_names ++ codes "mix-blend-mode" ∷ codes "isolation" ∷ []

-- what a style object gives its members, of which each may be absent
unfoldable pub given_of : Version → Data → Checked Why StyleChange
given_of version d =
    good joined
    ⊛ placing_of d
    ⊛ painting_of d
    ⊛ if_given visibility_of (codes "visibility") d
    ⊛ if_given pointer_of (codes "pointer-events") d
    ⊛ blending_of version d

-- a style object names these members and no others
unfoldable pub change_of : Version → Data → Checked Why StyleChange
change_of version d = members d >>= λ ms.
    good (λ _ c. c)
    ⊛ known (style_names version) ms
    ⊛ given_of version d

-- the style of a box has the default where a member is absent
abbrev pub style_of : Version → Data → Checked Why Style
style_of version d = change_of version d >>= λ c. good (changed plain c)

-- a style that may be absent, as if it were empty
abbrev pub style_or_plain : Version → Option Data → Checked Why Style
style_or_plain version None = good plain
style_or_plain version (Some d) = style_of version d

-- the style of a box or an insertion
abbrev pub style_at : Version → Data → Checked Why Style
style_at version d = style_or_plain version (get (codes "style") d)
