-- The words that lines are made of. The format is this project's own choice.
use Rattle.std.specs.Prelude.{ℕ, ◌/◌, ◌%◌, List, [], ◌∷◌, ◌++◌, codes, Bool, true, false}
use Rattle.std.specs.Fmt.{signed_decimal, digit_glyph}
use Rattle.std.specs.Option.{option_map_or}
use Rattle.rd_geom.specs.Plane.{Rectangle}
use Rattle.rd_geom.specs.declared.blend.Blend.{Blend}
use Rattle.rd_geom.specs.declared.blend.Blend.TheVariants.{Normal, Multiply, Screen, Darken, Lighten}
use Rattle.rd_geom.specs.declared.color.Color.{Color}
use Rattle.rd_keys.specs.Keys.{BoxKey}
use Rattle.rd_keys.specs.declared.entry.Part.{Part}
use Rattle.rd_keys.specs.declared.entry.Part.TheVariants.{Back, Border, Content, Outline}
use Rattle.rd_item.specs.declared.leaf.Shape.{Shape}
use Rattle.rd_tree.specs.Document.{BoxForest, id_of}

-- words with a space between two, and a newline
abbrev pub line : List (List ℕ) → List ℕ
line [] = 10 ∷ []
line (w ∷ []) = w ++ 10 ∷ []
line (w ∷ v ∷ ws) = w ++ 32 ∷ line (v ∷ ws)

-- the id of the box with this key; nothing where there is no such box
abbrev pub id_text : BoxKey → BoxForest → List ℕ
id_text k boxes = option_map_or (λ i. i) (id_of k boxes) []

-- a byte in two lower-case hexadecimal digits
abbrev pub hex : ℕ → List ℕ
hex n = digit_glyph false (n / 16) ∷ digit_glyph false (n % 16) ∷ []

-- red, green, blue
unfoldable pub opaque_text : Color → List ℕ
opaque_text c = hex c.r ++ hex c.g ++ hex c.b

-- red, green, blue, alpha
unfoldable pub color_text : Color → List ℕ
color_text c = hex c.r ++ hex c.g ++ hex c.b ++ hex c.a

-- the part of a box that a leaf paints
abbrev pub part_text : Part → List ℕ
part_text Back = codes "back"
part_text Border = codes "border"
part_text Content = codes "content"
part_text Outline = codes "outline"

-- the blend mode of a group after a space, nothing where it is normal; the words are those of CSS Compositing 1 section 10.1
abbrev pub mode_text : Blend → List ℕ
mode_text Normal = []
mode_text Multiply = codes " multiply"
mode_text Screen = codes " screen"
mode_text Darken = codes " darken"
mode_text Lighten = codes " lighten"

-- whether a box takes pointer hits
abbrev pub pointer_text : Bool → List ℕ
pointer_text true = codes "auto"
pointer_text false = codes "none"

-- four words: x, y, w, h
unfoldable pub rect_text : Rectangle → List ℕ
rect_text r =
    signed_decimal r.x ++ (32 ∷ signed_decimal r.y ++ (32 ∷ signed_decimal r.w ++ (32 ∷ signed_decimal r.h)))

-- the visible rectangle, the outer and the inner one of the shape
unfoldable pub shape_text : Rectangle → Shape → List ℕ
shape_text visible s = rect_text visible ++ (32 ∷ (rect_text s.outer ++ (32 ∷ rect_text s.inner)))
