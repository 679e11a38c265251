-- The values of a style are read as they are written.
use Rattle.std.proofs.Common.{◌≡◌, ◌<◌, ◌≤◌, ℕ, ◌+◌, ◌*◌, ◌/◌, ◌%◌, ◌==◌, nat_lt, Bool, true, false, if◌then◌else◌, [], ◌∷◌, ◌++◌, Option, Some, None, refl, ap, sym, ◌∙◌, arith, Ok, Err}
use Rattle.std.specs.Prelude.{⊤, ℤ, pos, negsuc, ◌≤ℤ◌, ◌-ℤ◌, IsTrue, unsigned_abs}
use Rattle.std.specs.Fmt.{digit_glyph}
use Rattle.std.proofs.lemmas.Bool.Decides.{nat_tests}
use Rattle.std.proofs.lemmas.Int.{ints}
use Rattle.serde_json.specs.Data.{number, unsigned, string}
use Rattle.rd_geom.specs.Plane.{Rectangle}
use Rattle.rd_geom.specs.declared.color.Color.{Color}
use Rattle.rd_geom.specs.declared.rect.Sides.{Sides}
use Rattle.rd_geom.specs.declared.blend.Blend.{Blend}
use Rattle.rd_geom.specs.declared.blend.Blend.TheVariants as blend
use Rattle.rd_style.specs.Figures.{max_coordinate, max_extent, max_line_width}
use Rattle.rd_style.specs.Limits.{is_between, FitsRect, fits_rect}
use Rattle.rd_style.specs.declared.kinds.Position.{Position}
use Rattle.rd_style.specs.declared.kinds.Position.TheVariants as position
use Rattle.rd_style.specs.declared.kinds.Overflow.{Overflow}
use Rattle.rd_style.specs.declared.kinds.Overflow.TheVariants as overflow
use Rattle.rd_style.specs.declared.kinds.Display.{Display}
use Rattle.rd_style.specs.declared.kinds.Display.TheVariants as display
use Rattle.rd_style.specs.declared.kinds.Floating.{Floating}
use Rattle.rd_style.specs.declared.kinds.Floating.TheVariants as floating
use Rattle.rd_style.specs.declared.kinds.Visibility.{Visibility}
use Rattle.rd_style.specs.declared.kinds.Visibility.TheVariants as visibility
use Rattle.rd_style.specs.declared.kinds.Pointer.{Pointer}
use Rattle.rd_style.specs.declared.kinds.Pointer.TheVariants as pointer
use Rattle.rd_style.specs.declared.kinds.Isolation.{Isolation}
use Rattle.rd_style.specs.declared.kinds.Isolation.TheVariants as isolation
use Rattle.rd_scene.specs.declared.fault.Why.TheVariants as why
use Rattle.rd_scene.specs.Canonical.{IsColor, IsLevel, IsChannel, IsContent}
use Rattle.rd_scene.specs.Checked.{Checked, good, rule, ◌⊛◌, ◌>>=◌}
use Rattle.rd_scene.specs.Members.{there, whole_number, within, number as number_from}
use Rattle.rd_scene.specs.Colors.{hex_digit, hex_byte, rgb, hashed, named_color, color_of, content_of}
use Rattle.rd_scene.specs.Rects.{four_numbers, coordinate, extent, placed, rect_of, width, bordered, sides_of, outline_width_of}
use Rattle.rd_scene.specs.Styles.{position_of, z_of, opacity_of, overflow_of, display_of, float_of, visibility_of, pointer_of, blend_of, isolation_of}
use Rattle.rd_scene.specs.Internal.Widths.{AreWidths}
use Rattle.rd_scene.proofs.Reread.Members.{left_true, right_true}
use Rattle.rd_scene.specs.Writing.{number_value, hex, color_text, color_value, content_value, z_value, rect_value, sides_value, position_word, overflow_word, display_word, float_word, visibility_word, pointer_word, blend_word, isolation_word}

-- ---- rules that hold

-- what a function is read as, of which nothing is asked
pub start : {F X : Type 0} (g : X) → good {F = F} g ≡ good g
start g = refl

infixl 10 ◌⊗◌
-- what is read of both
pub ◌⊗◌ : {F X Y : Type 0} {f : Checked F (X → Y)} {c : Checked F X} {g : X → Y} {x : X} → f ≡ good g → c ≡ good x
    → (f ⊛ c) ≡ good (g x)
◌⊗◌ {c = c} {g = g} p q = ap (λ r. r ⊛ c) p ∙ ap (λ r. good g ⊛ r) q

-- the same of the names of an object, which give no value
pub names_read : {F X : Type 0} (g : ⊤ → X) → (good {F = F} g ⊛ good tt) ≡ good (g tt)
names_read g = refl

-- what is read of what is read
pub next_read : {F X Y : Type 0} (c : Checked F X) (f : X → Checked F Y) (x : X) (y : Y) → c ≡ good x → f x ≡ good y
    → (c >>= f) ≡ good y
next_read c f x y p q = ap (λ r. r >>= f) p ∙ q

-- ---- whole numbers

pub within_read : (low high z : ℤ) → IsTrue (is_between low z high) → within low high z ≡ good z
within_read low high z h = ap (λ b. rule (if b then Ok z else Err why.Range)) h

whole_read : (z : ℤ) → z ≤ℤ pos 9223372036854775807 → whole_number (number_value z) ≡ good z
unfolding whole_number
whole_read (pos n) h =
    let small : nat_lt n 9223372036854775808 ≡ true = grind (arith, ints, nat_tests) in
    rw small
whole_read (negsuc n) h = refl

pub number_read : (low high z : ℤ) → high ≤ℤ pos 9223372036854775807 → IsTrue (is_between low z high)
    → number_from low high (number_value z) ≡ good z
number_read low high z few h =
    next_read (whole_number (number_value z)) (within low high) z z (whole_read z (grind (arith, ints, nat_tests)))
    (within_read low high z h)

pub opacity_read : (n : ℕ) → IsChannel n → opacity_of (number (unsigned n)) ≡ good n
opacity_read n h =
    next_read _ (λ z. good (unsigned_abs z)) (pos n) n
    (number_read (pos 0) (pos 255) (pos n) (omega (arith, ints)) (grind (arith, ints, nat_tests))) refl

pub z_read : (z : Option ℤ) → IsLevel z → z_of (z_value z) ≡ good z
z_read None h = refl
z_read (Some z) h =
    next_read _ (λ n. good (Some n)) z (Some z)
    (number_read (negsuc 2147483647) (pos 2147483647) z (omega (arith, ints)) h) refl

-- ---- words

pub position_read : (p : Position) → position_of (string (position_word p)) ≡ good p
position_read position.Static = refl
position_read position.Relative = refl
position_read position.Absolute = refl
position_read position.Fixed = refl

pub overflow_read : (o : Overflow) → overflow_of (string (overflow_word o)) ≡ good o
overflow_read overflow.Visible = refl
overflow_read overflow.Hidden = refl
overflow_read overflow.Scroll = refl
overflow_read overflow.Auto = refl

pub display_read : (d : Display) → display_of (string (display_word d)) ≡ good d
display_read display.Block = refl
display_read display.Inline = refl
display_read display.InlineBlock = refl

pub float_read : (f : Floating) → float_of (string (float_word f)) ≡ good f
float_read floating.No = refl
float_read floating.Left = refl
float_read floating.Right = refl

pub visibility_read : (v : Visibility) → visibility_of (string (visibility_word v)) ≡ good v
visibility_read visibility.Visible = refl
visibility_read visibility.Hidden = refl
visibility_read visibility.Collapse = refl

pub pointer_read : (p : Pointer) → pointer_of (string (pointer_word p)) ≡ good p
pointer_read pointer.Auto = refl
pointer_read pointer.Off = refl

pub blend_read : (b : Blend) → blend_of (string (blend_word b)) ≡ good b
blend_read blend.Normal = refl
blend_read blend.Multiply = refl
blend_read blend.Screen = refl
blend_read blend.Darken = refl
blend_read blend.Lighten = refl

pub isolation_read : (i : Isolation) → isolation_of (string (isolation_word i)) ≡ good i
isolation_read isolation.Auto = refl
isolation_read isolation.Isolate = refl

-- ---- colours

hex_digit_read : (d : ℕ) → d < 16 → hex_digit (digit_glyph false d) ≡ Some d
hex_digit_read d h = grind (arith, nat_tests)

hex_byte_read : (n : ℕ) → IsChannel n → hex_byte (digit_glyph false (n / 16)) (digit_glyph false (n % 16)) ≡ Some n
unfolding hex_byte
hex_byte_read n h =
    let high : n / 16 < 16 = omega arith in
    let low : n % 16 < 16 = omega arith in
    let whole : 16 * (n / 16) + n % 16 ≡ n = omega arith in
    rw (hex_digit_read (n / 16) high, hex_digit_read (n % 16) low) (ap Some whole)

rgb_read : (c : Color) (alpha : ℕ) → IsColor c
    → rgb (digit_glyph false (c.r / 16)) (digit_glyph false (c.r % 16)) (digit_glyph false (c.g / 16))
    (digit_glyph false (c.g % 16)) (digit_glyph false (c.b / 16)) (digit_glyph false (c.b % 16)) alpha
    ≡ Some (record c { a = alpha })
unfolding rgb
rgb_read c alpha h = rw (hex_byte_read c.r h.r, hex_byte_read c.g h.g, hex_byte_read c.b h.b)

text_by : (b : Bool) (c : Color) → (c.a == 255) ≡ b → IsColor c
    → named_color (35 ∷ hex c.r ++ hex c.g ++ hex c.b ++ (if b then [] else hex c.a)) ≡ Some c
unfolding hashed
text_by true c e h =
    let opaque : c.a ≡ 255 = grind (arith, nat_tests) in
    rgb_read c 255 h ∙ ap (λ n. Some (record c { a = n })) (sym opaque)
text_by false c e h = rw (hex_byte_read c.a h.a) (rgb_read c c.a h)

pub color_read : (c : Color) → IsColor c → color_of (color_value c) ≡ good c
unfolding color_text
color_read c h = ap (λ o. there why.Color o) (text_by (c.a == 255) c refl h)

pub content_read : (c : Option Color) → IsContent c → content_of (content_value c) ≡ good c
content_read None h = refl
content_read (Some c) h = next_read _ (λ k. good (Some k)) c (Some c) (color_read c h) refl

-- ---- rectangles and widths

four_read : (w x y z : ℤ) → w ≤ℤ pos 9223372036854775807 → x ≤ℤ pos 9223372036854775807 → y ≤ℤ pos 9223372036854775807
    → z ≤ℤ pos 9223372036854775807
    → four_numbers (number_value w) (number_value x) (number_value y) (number_value z) ≡ good (w, x, y, z)
unfolding four_numbers
four_read w x y z p q r s =
    start (λ w x y z. (w, x, y, z)) ⊗ whole_read w p ⊗ whole_read x q ⊗ whole_read y r ⊗ whole_read z s

-- the numbers of a rectangle within the limits
record Near (r : Rectangle) : Type 0 where
  x : IsTrue (is_between (pos 0 -ℤ max_coordinate) r.x max_coordinate)
  y : IsTrue (is_between (pos 0 -ℤ max_coordinate) r.y max_coordinate)
  w : IsTrue (is_between (pos 0) r.w max_extent)
  h : IsTrue (is_between (pos 0) r.h max_extent)

near : (r : Rectangle) → FitsRect r → Near r
unfolding fits_rect
near r f =
    let starts = left_true _ _ f in
    let small = right_true _ _ f in
    record { x = left_true _ _ starts; y = right_true _ _ starts; w = left_true _ _ small; h = right_true _ _ small }

few_read : (low high z : ℤ) → high ≤ℤ pos 9223372036854775807 → IsTrue (is_between low z high)
    → z ≤ℤ pos 9223372036854775807
few_read low high z few h = grind (arith, ints, nat_tests)

coordinate_read : (z : ℤ) → IsTrue (is_between (pos 0 -ℤ max_coordinate) z max_coordinate) → coordinate z ≡ good z
unfolding coordinate
coordinate_read z h = within_read (pos 0 -ℤ max_coordinate) max_coordinate z h

extent_read : (z : ℤ) → IsTrue (is_between (pos 0) z max_extent) → extent z ≡ good z
unfolding extent
extent_read z h = within_read (pos 0) max_extent z h

placed_read : (r : Rectangle) → Near r → placed (r.x, r.y, r.w, r.h) ≡ good r
unfolding placed
placed_read r n =
    start (λ x y w h. record { x = x; y = y; w = w; h = h })
    ⊗ coordinate_read r.x n.x ⊗ coordinate_read r.y n.y ⊗ extent_read r.w n.w ⊗ extent_read r.h n.h

pub rect_read : (r : Rectangle) → FitsRect r → rect_of (rect_value r) ≡ good r
rect_read r f =
    let n : Near r = near r f in
    next_read _ placed (r.x, r.y, r.w, r.h) r
    (four_read r.x r.y r.w r.h (few_read (pos 0 -ℤ max_coordinate) max_coordinate r.x (omega (arith, ints)) n.x)
    (few_read (pos 0 -ℤ max_coordinate) max_coordinate r.y (omega (arith, ints)) n.y)
    (few_read (pos 0) max_extent r.w (omega (arith, ints)) n.w)
    (few_read (pos 0) max_extent r.h (omega (arith, ints)) n.h)) (placed_read r n)

width_read : (n : ℕ) → n ≤ max_line_width → width (pos n) ≡ good n
unfolding width
width_read n h = next_read _ (λ w. good (unsigned_abs w)) (pos n) n
    (within_read (pos 0) (pos max_line_width) (pos n) (grind (arith, ints, nat_tests))) refl

bordered_read : (s : Sides) → AreWidths s → bordered (pos s.top, pos s.right, pos s.bottom, pos s.left) ≡ good s
unfolding bordered
bordered_read s n =
    start (λ t r b l. record { top = t; right = r; bottom = b; left = l })
    ⊗ width_read s.top n.top ⊗ width_read s.right n.right ⊗ width_read s.bottom n.bottom ⊗ width_read s.left n.left

narrow_read : (n : ℕ) → n ≤ max_line_width → pos n ≤ℤ pos 9223372036854775807
narrow_read n h = omega (arith, ints)

pub sides_read : (s : Sides) → AreWidths s → sides_of (sides_value s) ≡ good s
sides_read s n =
    next_read _ bordered (pos s.top, pos s.right, pos s.bottom, pos s.left) s
    (four_read (pos s.top) (pos s.right) (pos s.bottom) (pos s.left)
    (narrow_read s.top n.top) (narrow_read s.right n.right) (narrow_read s.bottom n.bottom)
    (narrow_read s.left n.left)) (bordered_read s n)

pub outline_width_read : (n : ℕ) → n ≤ max_line_width → outline_width_of (number (unsigned n)) ≡ good n
outline_width_read n h = next_read (whole_number (number_value (pos n))) width (pos n) n
    (whole_read (pos n) (narrow_read n h)) (width_read n h)
