-- How the parts of a wire are spelled, and which of them have a spelling. The form is this project's own choice.
use Rattle.std.specs.Prelude.{ℕ, ℤ, ◌<◌, ◌^◌, List, [], ◌∷◌, ◌++◌, Bool, true, false}
use Rattle.std.specs.Int.{w32, to_be_bytes, cast_unsigned}
use Rattle.rd_geom.specs.Plane.{Rectangle}
use Rattle.rd_geom.specs.declared.blend.Blend.{Blend}
use Rattle.rd_geom.specs.declared.blend.Blend.TheVariants.{Normal, Multiply, Screen, Darken, Lighten}
use Rattle.rd_geom.specs.declared.color.Color.{Color}
use Rattle.rd_keys.specs.Keys.{BoxKey}
use Rattle.rd_keys.specs.declared.entry.Part.{Part}
use Rattle.rd_keys.specs.declared.entry.Part.TheVariants.{Back, Border, Content, Outline}

-- a number of 32 bits, the greatest byte first
unfoldable pub number : ℕ → List ℕ
number n = to_be_bytes w32 n

-- the same of a number with a sign, in two's complement
unfoldable pub whole : ℤ → List ℕ
whole z = number (cast_unsigned w32 z)

-- the slot of a key, and its generation
abbrev pub key : BoxKey → List ℕ
key k = number k.slot ++ number k.generation

-- one byte
abbrev pub part : Part → List ℕ
part Back = 0 ∷ []
part Border = 1 ∷ []
part Content = 2 ∷ []
part Outline = 3 ∷ []

-- CSS Compositing 1 section 3.4.1: one byte
abbrev pub mode : Blend → List ℕ
mode Normal = 0 ∷ []
mode Multiply = 1 ∷ []
mode Screen = 2 ∷ []
mode Darken = 3 ∷ []
mode Lighten = 4 ∷ []

-- its left upper pixel, and how many it has across and down
abbrev pub rectangle : Rectangle → List ℕ
rectangle r = (whole r.x ++ whole r.y) ++ (whole r.w ++ whole r.h)

-- a byte for each channel
abbrev pub color : Color → List ℕ
color c = c.r ∷ c.g ∷ c.b ∷ c.a ∷ []

-- one byte
abbrev pub flag : Bool → List ℕ
flag false = 0 ∷ []
flag true = 1 ∷ []

-- numbers that 32 bits hold
pub record IsKey (k : BoxKey) : Type 0 where
  pub slot : k.slot < 2 ^ 32
  pub generation : k.generation < 2 ^ 32

-- channels that 8 bits hold
pub record IsColor (c : Color) : Type 0 where
  pub red : c.r < 256
  pub green : c.g < 256
  pub blue : c.b < 256
  pub opacity : c.a < 256
