-- Colours as a script writes them.
use Rattle.std.specs.Prelude.{ℕ, ◌+◌, ◌-◌, ◌*◌, ◌&&◌, ◌==◌, nat_le, if◌then◌else◌, List, [], ◌∷◌, codes, bytes_eq, Option, Some, None, option_and_then, is_some}
use Rattle.serde_json.specs.Data.{Data}
use Rattle.serde_json.specs.Find.{as_null}
use Rattle.rd_geom.specs.declared.color.Color.{Color}
use Rattle.rd_geom.specs.Colors.{transparent}
use Rattle.rd_scene.specs.declared.fault.Why.{Why}
use Rattle.rd_scene.specs.declared.fault.Why.TheVariants as why
use Rattle.rd_scene.specs.Checked.{Checked, good, ◌>>=◌}
use Rattle.rd_scene.specs.Members.{there, string}

-- CSS Color 3 section 4.2.1: a hexadecimal digit of either case
abbrev pub hex_digit : ℕ → Option ℕ
hex_digit c =
    if nat_le 48 c && nat_le c 57 then Some (c - 48) else
    if nat_le 97 c && nat_le c 102 then Some (c - 87) else
    if nat_le 65 c && nat_le c 70 then Some (c - 55) else None

-- CSS Color 3 section 4.2.1: two digits of a channel
unfoldable pub hex_byte : ℕ → ℕ → Option ℕ
hex_byte c d = option_and_then (λ high. option_and_then (λ low. Some (16 * high + low)) (hex_digit d)) (hex_digit c)

-- CSS Color 3 section 4.2.1: red, green and blue
unfoldable pub rgb : ℕ → ℕ → ℕ → ℕ → ℕ → ℕ → ℕ → Option Color
rgb c d e f g h alpha =
    option_and_then (λ red. option_and_then (λ green. option_and_then (λ blue.
    Some (record { r = red; g = green; b = blue; a = alpha })) (hex_byte g h)) (hex_byte e f)) (hex_byte c d)

-- CSS Color 3 section 4.2.1: `#` and six digits; and eight, of which the last two are alpha, as CSS Color 4 section 5.2 has it
unfoldable pub hashed : List ℕ → Option Color
hashed (b ∷ c ∷ d ∷ e ∷ f ∷ g ∷ h ∷ []) = if b == 35 then rgb c d e f g h 255 else None
hashed (b ∷ c ∷ d ∷ e ∷ f ∷ g ∷ h ∷ i ∷ j ∷ []) = if b == 35 then option_and_then (λ alpha. rgb c d e f g h alpha) (hex_byte i j) else None
hashed w = None

-- CSS Color 3 section 4.1.1: `transparent`, or such digits
abbrev pub named_color : List ℕ → Option Color
named_color w = if bytes_eq w (codes "transparent") then Some transparent else hashed w

-- a colour is a string
abbrev pub color_of : Data → Checked Why Color
color_of d = string d >>= λ w. there why.Color (named_color w)

-- the colour of what a box contains, or `null` for no content
abbrev pub content_of : Data → Checked Why (Option Color)
content_of d = if is_some (as_null d) then good None else (color_of d >>= λ c. good (Some c))
