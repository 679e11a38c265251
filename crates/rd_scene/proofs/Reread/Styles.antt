-- A style and a change of one are read as they are written.
use Rattle.std.proofs.Common.{◌≡◌, ◌≤◌, ℕ, ◌==◌, nat_le, Bool, true, false, ◌&&◌, if◌then◌else◌, List, [], ◌∷◌, codes, Option, Some, None, option_map, unwrap_or, refl, ap, ◌∙◌, arith}
use Rattle.std.specs.Prelude.{ℤ, IfSome}
use Rattle.std.proofs.lemmas.Bool.Decides.{nat_tests}
use Rattle.serde_json.specs.Data.{Data, object, string, number, unsigned}
use Rattle.serde_json.specs.Find.{get}
use Rattle.rd_geom.specs.declared.color.Color.{Color}
use Rattle.rd_geom.specs.declared.rect.Sides.{Sides}
use Rattle.rd_geom.specs.declared.blend.Blend.{Blend}
use Rattle.rd_geom.specs.declared.blend.Blend.TheVariants as blend
use Rattle.rd_style.specs.Changes.{plain, changed, black, transparent}
use Rattle.rd_style.specs.Limits.{Fits, fits}
use Rattle.rd_style.specs.Figures.{max_line_width}
use Rattle.rd_style.specs.declared.styles.Style.{Style}
use Rattle.rd_style.specs.declared.styles.StyleChange.{StyleChange}
use Rattle.rd_style.specs.declared.kinds.Position.{Position}
use Rattle.rd_style.specs.declared.kinds.Position.TheVariants as position
use Rattle.rd_style.specs.declared.kinds.Overflow.{Overflow}
use Rattle.rd_style.specs.declared.kinds.Overflow.TheVariants as overflow
use Rattle.rd_style.specs.declared.kinds.Display.{Display}
use Rattle.rd_style.specs.declared.kinds.Display.TheVariants as display
use Rattle.rd_style.specs.declared.kinds.Floating.{Floating}
use Rattle.rd_style.specs.declared.kinds.Floating.TheVariants as floating
use Rattle.rd_style.specs.declared.kinds.Visibility.{Visibility}
use Rattle.rd_style.specs.declared.kinds.Visibility.TheVariants as visibility
use Rattle.rd_style.specs.declared.kinds.Pointer.{Pointer}
use Rattle.rd_style.specs.declared.kinds.Pointer.TheVariants as pointer
use Rattle.rd_style.specs.declared.kinds.Isolation.{Isolation}
use Rattle.rd_style.specs.declared.kinds.Isolation.TheVariants as isolation
use Rattle.rd_scene.specs.declared.fault.Why.{Why}
use Rattle.rd_scene.specs.declared.fault.Why.TheVariants as why
use Rattle.rd_scene.specs.declared.version.Version.{Version}
use Rattle.rd_scene.specs.declared.version.Version.TheVariants.{One, Two}
use Rattle.rd_scene.specs.Canonical.{IsChannel, IsColor, IsLevel, IsContent, IsStyle, IsChange}
use Rattle.rd_scene.specs.Checked.{Checked, good}
use Rattle.rd_scene.specs.Colors.{color_of, content_of}
use Rattle.rd_scene.specs.Differing.{position_unless, overflow_unless, display_unless, float_unless, visibility_unless, pointer_unless, blend_unless, isolation_unless, number_unless, color_unless, sides_unless, differing}
use Rattle.rd_scene.specs.Members.{holds, known, optional, if_given}
use Rattle.rd_scene.specs.Rects.{sides_of, outline_width_of}
use Rattle.rd_scene.specs.Styles.{position_of, z_of, opacity_of, overflow_of, display_of, float_of, visibility_of, pointer_of, blend_of, isolation_of, placing, painting, blending, joined, placing_of, painting_of, blending_of, style_names, given_of, change_of, style_of}
use Rattle.rd_scene.specs.Versions.{number_of, HasStyle, HasChange}
use Rattle.rd_scene.specs.Writing.{z_value, color_value, content_value, sides_value, position_word, overflow_word, display_word, float_word, visibility_word, pointer_word, blend_word, isolation_word, with_placing, with_painting, with_blending, change_value, style_value}
use Rattle.rd_scene.specs.Internal.Widths.{AreWidths}
use Rattle.rd_scene.proofs.Reread.Members.{Field, built, known-built, get-built, left_true, right_true}
use Rattle.rd_scene.proofs.Reread.Values.{start, ◌⊗◌, next_read, opacity_read, z_read, position_read, overflow_read, display_read, float_read, visibility_read, pointer_read, blend_read, isolation_read, color_read, content_read, sides_read, outline_width_read}

-- ---- members that may be absent

optional_read : {X : Type 0} (read : Data → Checked Why X) (f : X → Data) (P : X → Type 0) (o : Option X) → IfSome o P
    → ((x : X) → P x → read (f x) ≡ good x) → optional read (option_map f o) ≡ good o
optional_read read f P None h r = refl
optional_read read f P (Some x) h r = next_read (read (f x)) (λ a. good (Some a)) x (Some x) (r x h) refl

given_read : {X : Type 0} (read : Data → Checked Why X) (f : X → Data) (P : X → Type 0) (k : List ℕ) (d : Data)
    (o : Option X) → get k d ≡ option_map f o
    → IfSome o P → ((x : X) → P x → read (f x) ≡ good x) → if_given read k d ≡ good o
given_read read f P k d o e h r = ap (optional read) e ∙ optional_read read f P o h r

word_read : {X : Type 0} (read : Data → Checked Why X) (word : X → List ℕ) (k : List ℕ) (d : Data) (o : Option X)
    → get k d ≡ option_map (λ x. string (word x)) o
    → ((x : X) → read (string (word x)) ≡ good x) → if_given read k d ≡ good o
word_read read word k d None e r = ap (optional read) e
word_read read word k d (Some x) e r = ap (optional read) e
    ∙ next_read (read (string (word x))) (λ a. good (Some a)) x (Some x) (r x) refl

-- ---- changes

-- what a change names fits its bits and is within the limits
pub record Named (c : StyleChange) : Type 0 where
  pub types : IsChange c
  pub sides : IfSome c.border_width AreWidths
  pub outline : IfSome c.outline_width (λ n. n ≤ max_line_width)

-- the members of a style object that both versions have
abbrev first_fields : StyleChange → List Field
first_fields c =
    (codes "visibility", option_map (λ v. string (visibility_word v)) c.visibility)
    ∷ (codes "pointer-events", option_map (λ p. string (pointer_word p)) c.pointer)
    ∷ (codes "outline-width", option_map (λ n. number (unsigned n)) c.outline_width)
    ∷ (codes "outline-color", option_map color_value c.outline_color)
    ∷ (codes "content", option_map content_value c.content)
    ∷ (codes "border-width", option_map sides_value c.border_width)
    ∷ (codes "border-color", option_map color_value c.border_color)
    ∷ (codes "background", option_map color_value c.background)
    ∷ (codes "z-index", option_map z_value c.z)
    ∷ (codes "position", option_map (λ p. string (position_word p)) c.position)
    ∷ (codes "overflow", option_map (λ o. string (overflow_word o)) c.overflow)
    ∷ (codes "opacity", option_map (λ n. number (unsigned n)) c.opacity)
    ∷ (codes "float", option_map (λ f. string (float_word f)) c.float)
    ∷ (codes "display", option_map (λ d. string (display_word d)) c.display) ∷ []

-- the members of a style object
abbrev fields : StyleChange → List Field
fields c =
    (codes "mix-blend-mode", option_map (λ b. string (blend_word b)) c.blend)
    ∷ (codes "isolation", option_map (λ i. string (isolation_word i)) c.isolation) ∷ first_fields c

-- the same as a value
style_object : StyleChange → Data
style_object c = object (built (fields c))

is_object : (c : StyleChange) → change_value c ≡ style_object c
unfolding change_value with_placing with_painting with_blending style_object
is_object c = refl

position-get : (c : StyleChange)
    → get (codes "position") (style_object c) ≡ option_map (λ p. string (position_word p)) c.position
unfolding style_object
position-get c = get-built (codes "position") (fields c) refl

z-get : (c : StyleChange) → get (codes "z-index") (style_object c) ≡ option_map z_value c.z
unfolding style_object
z-get c = get-built (codes "z-index") (fields c) refl

opacity-get : (c : StyleChange)
    → get (codes "opacity") (style_object c) ≡ option_map (λ n. number (unsigned n)) c.opacity
unfolding style_object
opacity-get c = get-built (codes "opacity") (fields c) refl

overflow-get : (c : StyleChange)
    → get (codes "overflow") (style_object c) ≡ option_map (λ o. string (overflow_word o)) c.overflow
unfolding style_object
overflow-get c = get-built (codes "overflow") (fields c) refl

display-get : (c : StyleChange)
    → get (codes "display") (style_object c) ≡ option_map (λ d. string (display_word d)) c.display
unfolding style_object
display-get c = get-built (codes "display") (fields c) refl

float-get : (c : StyleChange) → get (codes "float") (style_object c) ≡ option_map (λ f. string (float_word f)) c.float
unfolding style_object
float-get c = get-built (codes "float") (fields c) refl

background-get : (c : StyleChange) → get (codes "background") (style_object c) ≡ option_map color_value c.background
unfolding style_object
background-get c = get-built (codes "background") (fields c) refl

border_width-get : (c : StyleChange)
    → get (codes "border-width") (style_object c) ≡ option_map sides_value c.border_width
unfolding style_object
border_width-get c = get-built (codes "border-width") (fields c) refl

border_color-get : (c : StyleChange)
    → get (codes "border-color") (style_object c) ≡ option_map color_value c.border_color
unfolding style_object
border_color-get c = get-built (codes "border-color") (fields c) refl

content-get : (c : StyleChange) → get (codes "content") (style_object c) ≡ option_map content_value c.content
unfolding style_object
content-get c = get-built (codes "content") (fields c) refl

outline_width-get : (c : StyleChange)
    → get (codes "outline-width") (style_object c) ≡ option_map (λ n. number (unsigned n)) c.outline_width
unfolding style_object
outline_width-get c = get-built (codes "outline-width") (fields c) refl

outline_color-get : (c : StyleChange)
    → get (codes "outline-color") (style_object c) ≡ option_map color_value c.outline_color
unfolding style_object
outline_color-get c = get-built (codes "outline-color") (fields c) refl

visibility-get : (c : StyleChange)
    → get (codes "visibility") (style_object c) ≡ option_map (λ v. string (visibility_word v)) c.visibility
unfolding style_object
visibility-get c = get-built (codes "visibility") (fields c) refl

pointer-get : (c : StyleChange)
    → get (codes "pointer-events") (style_object c) ≡ option_map (λ p. string (pointer_word p)) c.pointer
unfolding style_object
pointer-get c = get-built (codes "pointer-events") (fields c) refl

blend-get : (c : StyleChange)
    → get (codes "mix-blend-mode") (style_object c) ≡ option_map (λ b. string (blend_word b)) c.blend
unfolding style_object
blend-get c = get-built (codes "mix-blend-mode") (fields c) refl

isolation-get : (c : StyleChange)
    → get (codes "isolation") (style_object c) ≡ option_map (λ i. string (isolation_word i)) c.isolation
unfolding style_object
isolation-get c = get-built (codes "isolation") (fields c) refl

placing_read : (c : StyleChange) → Named c
    → placing_of (style_object c) ≡ good (placing c.position c.z c.opacity c.overflow c.display c.float)
unfolding placing_of
placing_read c n =
    start placing
    ⊗ word_read position_of position_word (codes "position") (style_object c) c.position (position-get c) position_read
    ⊗ given_read z_of z_value IsLevel (codes "z-index") (style_object c) c.z (z-get c) n.types.z z_read
    ⊗ given_read opacity_of (λ k. number (unsigned k)) IsChannel (codes "opacity") (style_object c) c.opacity
    (opacity-get c) n.types.opacity opacity_read
    ⊗ word_read overflow_of overflow_word (codes "overflow") (style_object c) c.overflow (overflow-get c) overflow_read
    ⊗ word_read display_of display_word (codes "display") (style_object c) c.display (display-get c) display_read
    ⊗ word_read float_of float_word (codes "float") (style_object c) c.float (float-get c) float_read

painting_read : (c : StyleChange) → Named c
    → painting_of (style_object c)
    ≡ good (painting c.background c.border_width c.border_color c.content c.outline_width c.outline_color)
unfolding painting_of
painting_read c n =
    start painting
    ⊗ given_read color_of color_value IsColor (codes "background") (style_object c) c.background
    (background-get c) n.types.background color_read
    ⊗ given_read sides_of sides_value AreWidths (codes "border-width") (style_object c) c.border_width
    (border_width-get c) n.sides sides_read
    ⊗ given_read color_of color_value IsColor (codes "border-color") (style_object c) c.border_color
    (border_color-get c) n.types.border_color color_read
    ⊗ given_read content_of content_value IsContent (codes "content") (style_object c) c.content
    (content-get c) n.types.content content_read
    ⊗ given_read outline_width_of (λ k. number (unsigned k)) (λ k. k ≤ max_line_width) (codes "outline-width")
    (style_object c) c.outline_width (outline_width-get c) n.outline outline_width_read
    ⊗ given_read color_of color_value IsColor (codes "outline-color") (style_object c) c.outline_color
    (outline_color-get c) n.types.outline_color color_read

blending_read : (version : Version) (c : StyleChange) → HasChange (number_of version) c
    → blending_of version (style_object c) ≡ good (blending c.blend c.isolation)
unfolding blending_of blending
blending_read One c h = rw ((h refl).blend, (h refl).isolation)
blending_read Two c h =
    start blending
    ⊗ word_read blend_of blend_word (codes "mix-blend-mode") (style_object c) c.blend (blend-get c) blend_read
    ⊗ word_read isolation_of isolation_word (codes "isolation") (style_object c) c.isolation
    (isolation-get c) isolation_read

names_read : (version : Version) (c : StyleChange) → HasChange (number_of version) c
    → known (style_names version) (built (fields c)) ≡ good tt
names_read One c h =
    rw ((h refl).blend, (h refl).isolation) (ap (holds why.Unknown) (known-built (style_names One) (first_fields c) refl))
names_read Two c h = ap (holds why.Unknown) (known-built (style_names Two) (fields c) refl)

joined_read : (c : StyleChange) → joined (placing c.position c.z c.opacity c.overflow c.display c.float)
    (painting c.background c.border_width c.border_color c.content c.outline_width c.outline_color) c.visibility
    c.pointer (blending c.blend c.isolation) ≡ c
unfolding joined placing painting blending
joined_read c = refl

members_read : (version : Version) (c : StyleChange) → Named c → HasChange (number_of version) c
    → given_of version (style_object c) ≡ good c
unfolding given_of style_object
members_read version c n h =
    (start joined ⊗ placing_read c n ⊗ painting_read c n
    ⊗ word_read visibility_of visibility_word (codes "visibility") (style_object c) c.visibility
    (visibility-get c) visibility_read
    ⊗ word_read pointer_of pointer_word (codes "pointer-events") (style_object c) c.pointer (pointer-get c) pointer_read
    ⊗ blending_read version c h)
    ∙ ap good (joined_read c)

object_read : (version : Version) (c : StyleChange) → Named c → HasChange (number_of version) c
    → change_of version (style_object c) ≡ good c
unfolding change_of style_object
object_read version c n h = start (λ _ c. c) ⊗ names_read version c h ⊗ members_read version c n h

pub change_read : (version : Version) (c : StyleChange) → Named c → HasChange (number_of version) c
    → change_of version (change_value c) ≡ good c
change_read version c n h = ap (change_of version) (is_object c) ∙ object_read version c n h

-- ---- styles

position_back : (p : Position) → unwrap_or (position_unless p) position.Static ≡ p
position_back position.Static = refl
position_back position.Relative = refl
position_back position.Absolute = refl
position_back position.Fixed = refl

overflow_back : (o : Overflow) → unwrap_or (overflow_unless o) overflow.Visible ≡ o
overflow_back overflow.Visible = refl
overflow_back overflow.Hidden = refl
overflow_back overflow.Scroll = refl
overflow_back overflow.Auto = refl

display_back : (d : Display) → unwrap_or (display_unless d) display.Block ≡ d
display_back display.Block = refl
display_back display.Inline = refl
display_back display.InlineBlock = refl

float_back : (f : Floating) → unwrap_or (float_unless f) floating.No ≡ f
float_back floating.No = refl
float_back floating.Left = refl
float_back floating.Right = refl

visibility_back : (v : Visibility) → unwrap_or (visibility_unless v) visibility.Visible ≡ v
visibility_back visibility.Visible = refl
visibility_back visibility.Hidden = refl
visibility_back visibility.Collapse = refl

pointer_back : (p : Pointer) → unwrap_or (pointer_unless p) pointer.Auto ≡ p
pointer_back pointer.Auto = refl
pointer_back pointer.Off = refl

blend_back : (b : Blend) → unwrap_or (blend_unless b) blend.Normal ≡ b
blend_back blend.Normal = refl
blend_back blend.Multiply = refl
blend_back blend.Screen = refl
blend_back blend.Darken = refl
blend_back blend.Lighten = refl

isolation_back : (i : Isolation) → unwrap_or (isolation_unless i) isolation.Auto ≡ i
isolation_back isolation.Auto = refl
isolation_back isolation.Isolate = refl

option_back : {X : Type 0} (o : Option X) → unwrap_or (option_map Some o) None ≡ o
option_back None = refl
option_back (Some x) = refl

unless_back : {X : Type 0} (b : Bool) (x d : X) → (b ≡ true → d ≡ x) → unwrap_or (if b then None else Some x) d ≡ x
unless_back true x d h = h refl
unless_back false x d h = refl

same_number : (a b : ℕ) → (a == b) ≡ true → b ≡ a
same_number a b h = grind (arith, nat_tests)

number_back : (d n : ℕ) → unwrap_or (number_unless d n) d ≡ n
number_back d n = unless_back (n == d) n d (same_number n d)

-- numbers that pass four tests are the same
record Same (a b c d e f g h : ℕ) : Type 0 where
  first : e ≡ a
  second : f ≡ b
  third : g ≡ c
  fourth : h ≡ d

same_four : (a b c d e f g h : ℕ) → ((a == e) && (b == f) && (c == g) && (d == h)) ≡ true → Same a b c d e f g h
same_four a b c d e f g h t =
    let three = left_true _ _ t in
    let two = left_true _ _ three in
    record {
      first = same_number a e (left_true _ _ two);
      second = same_number b f (right_true _ _ two);
      third = same_number c g (right_true _ _ three);
      fourth = same_number d h (right_true _ _ t);
    }

abbrev color : ℕ → ℕ → ℕ → ℕ → Color
color r g b a = record { r = r; g = g; b = b; a = a }

same_color : (a b c d e f g h : ℕ) → Same a b c d e f g h → color e f g h ≡ color a b c d
same_color a b c d e f g h s = rw (s.first, s.second, s.third, s.fourth)

color_back : (d c : Color) → unwrap_or (color_unless d c) d ≡ c
color_back d c = unless_back ((c.r == d.r) && (c.g == d.g) && (c.b == d.b) && (c.a == d.a)) c d
    (λ t. same_color c.r c.g c.b c.a d.r d.g d.b d.a (same_four c.r c.g c.b c.a d.r d.g d.b d.a t))

abbrev sides : ℕ → ℕ → ℕ → ℕ → Sides
sides t r b l = record { top = t; right = r; bottom = b; left = l }

same_sides : (a b c d e f g h : ℕ) → Same a b c d e f g h → sides e f g h ≡ sides a b c d
same_sides a b c d e f g h s = rw (s.first, s.second, s.third, s.fourth)

sides_back : (s : Sides) → unwrap_or (sides_unless s) (sides 0 0 0 0) ≡ s
sides_back s = unless_back ((s.top == 0) && (s.right == 0) && (s.bottom == 0) && (s.left == 0)) s (sides 0 0 0 0)
    (λ t. same_sides s.top s.right s.bottom s.left 0 0 0 0 (same_four s.top s.right s.bottom s.left 0 0 0 0 t))

-- a style is the default one with what differs changed
restored : (s : Style) → changed plain (differing s) ≡ s
unfolding differing
restored s = rw (
  position_back s.position,
  option_back s.z,
  number_back 255 s.opacity,
  overflow_back s.overflow,
  display_back s.display,
  float_back s.float,
  color_back transparent s.background,
  sides_back s.border_width,
  color_back black s.border_color,
  option_back s.content,
  number_back 0 s.outline_width,
  color_back black s.outline_color,
  visibility_back s.visibility,
  pointer_back s.pointer,
  blend_back s.blend,
  isolation_back s.isolation,
)

unless_some : {X : Type 0} (P : X → Type 0) (b : Bool) (x : X) → P x → IfSome (if b then None else Some x) P
unless_some P true x h = tt
unless_some P false x h = h

level_some : (z : Option ℤ) → IsLevel z → IfSome (option_map Some z) IsLevel
level_some None h = tt
level_some (Some z) h = h

content_some : (c : Option Color) → IsContent c → IfSome (option_map Some c) IsContent
content_some None h = tt
content_some (Some c) h = h

-- the widths of a style within the limits
record Within (s : Style) : Type 0 where
  sides : AreWidths s.border_width
  outline : s.outline_width ≤ max_line_width

below : (n : ℕ) → nat_le n max_line_width ≡ true → n ≤ max_line_width
below n h = grind (arith, nat_tests)

within : (s : Style) → Fits s → Within s
unfolding fits
within s f =
    let four = left_true _ _ f in
    let three = left_true _ _ four in
    let two = left_true _ _ three in
    record {
      sides = record {
        top = below _ (left_true _ _ two);
        right = below _ (right_true _ _ two);
        bottom = below _ (right_true _ _ three);
        left = below _ (right_true _ _ four);
      };
      outline = below _ (right_true _ _ f);
    }

differing_named : (s : Style) → IsStyle s → Within s → Named (differing s)
unfolding differing
differing_named s t w = record {
  types = record {
    z = level_some s.z t.z;
    opacity = unless_some IsChannel _ s.opacity t.opacity;
    background = unless_some IsColor _ s.background t.background;
    border_color = unless_some IsColor _ s.border_color t.border_color;
    content = content_some s.content t.content;
    outline_color = unless_some IsColor _ s.outline_color t.outline_color;
  };
  sides = unless_some AreWidths _ s.border_width w.sides;
  outline = unless_some (λ n. n ≤ max_line_width) _ s.outline_width w.outline;
}

differing_had : (version : ℕ) (s : Style) → HasStyle version s → HasChange version (differing s)
unfolding differing
differing_had version s h =
    λ e. record { blend = ap blend_unless (h e).blend; isolation = ap isolation_unless (h e).isolation }

pub style_read : (version : Version) (s : Style) → IsStyle s → Fits s → HasStyle (number_of version) s
    → style_of version (style_value s) ≡ good s
style_read version s t f h =
    next_read _ (λ c. good (changed plain c)) (differing s) s
    (change_read version (differing s) (differing_named s t (within s f)) (differing_had (number_of version) s h))
    (ap good (restored s))

named_or : {X : Type 0} (P : X → Type 0) (o : Option X) (d : X) → P (unwrap_or o d) → IfSome o P
named_or P None d h = tt
named_or P (Some x) d h = h

-- what a change names that leads to a style within the limits
pub change_named : (c : StyleChange) → IsChange c → Fits (changed plain c) → Named c
change_named c t f =
    let w : Within (changed plain c) = within (changed plain c) f in
    record {
      types = t;
      sides = named_or AreWidths c.border_width (sides 0 0 0 0) w.sides;
      outline = named_or (λ n. n ≤ max_line_width) c.outline_width 0 w.outline;
    }
