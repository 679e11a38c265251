-- Reading from the front of some bytes: a value and the bytes after it, or none where no such value is spelled there.
use Rattle.std.specs.Prelude.{ℕ, zero, suc, ℤ, pos, List, [], ◌∷◌, length, take, drop, Option, Some, None, Bool, true, false, ◌&&◌, nat_lt, int_le, if◌then◌else◌}
use Rattle.std.specs.Int.{Width, w32, byte_len, from_be_bytes, cast_signed}
use Rattle.rd_geom.specs.declared.blend.Blend.{Blend}
use Rattle.rd_geom.specs.declared.blend.Blend.TheVariants.{Normal, Multiply, Screen, Darken, Lighten}
use Rattle.rd_geom.specs.declared.color.Color.{Color}
use Rattle.rd_geom.specs.Figures.{max_reach}
use Rattle.rd_geom.specs.Plane.{Rectangle, right, bottom, int_low}
use Rattle.rd_keys.specs.Keys.{BoxKey}
use Rattle.rd_keys.specs.declared.entry.Part.{Part}
use Rattle.rd_keys.specs.declared.entry.Part.TheVariants.{Back, Border, Content, Outline}

abbrev pub Reader : Type 0 → Type 0
Reader A = List ℕ → Option (A × List ℕ)

infixl 10 ◌>>=◌
abbrev pub ◌>>=◌ : {A B : Type 0} → Option A → (A → Option B) → Option B
None >>= f = None
(Some x) >>= f = f x

-- one value, and another one behind it
abbrev pub pair_at : {A B : Type 0} → Reader A → Reader B → Reader (A × B)
pair_at first second bytes = first bytes >>= λ x. second x.1 >>= λ y. Some ((x.0, y.0), y.1)

-- a value made of another one, where there is one
abbrev pub made_at : {A B : Type 0} → Reader A → (A → Option B) → Reader B
made_at first to bytes = first bytes >>= λ x. to x.0 >>= λ y. Some (y, x.1)

abbrev pub byte_at : Reader ℕ
byte_at [] = None
byte_at (b ∷ rest) = Some (b, rest)

unfoldable pub number_at : Width → Reader ℕ
number_at w bytes = if nat_lt (length bytes) (byte_len w) then None else Some (from_be_bytes w (take (byte_len w) bytes), drop (byte_len w) bytes)

unfoldable pub whole_at : Reader ℤ
whole_at bytes = made_at (number_at w32) (λ n. Some (cast_signed w32 n)) bytes

-- may a rectangle lie so?
abbrev pub is_placed : Rectangle → Bool
is_placed r = int_le (pos 0) r.w && int_le (pos 0) r.h && int_le int_low r.x && int_le int_low r.y && int_le (right r) max_reach && int_le (bottom r) max_reach

abbrev pub rect_of : (ℤ × ℤ) × (ℤ × ℤ) → Rectangle
rect_of p = record { x = p.0.0; y = p.0.1; w = p.1.0; h = p.1.1 }

abbrev pub placed : (ℤ × ℤ) × (ℤ × ℤ) → Option Rectangle
placed p = if is_placed (rect_of p) then Some (rect_of p) else None

unfoldable pub rect_at : Reader Rectangle
rect_at bytes = made_at (pair_at (pair_at whole_at whole_at) (pair_at whole_at whole_at)) placed bytes

abbrev pub key_of : ℕ × ℕ → BoxKey
key_of p = record { slot = p.0; generation = p.1; mark = record {} }

unfoldable pub key_at : Reader BoxKey
key_at bytes = made_at (pair_at (number_at w32) (number_at w32)) (λ p. Some (key_of p)) bytes

abbrev pub part_of : ℕ → Option Part
part_of zero = Some Back
part_of (suc zero) = Some Border
part_of (suc (suc zero)) = Some Content
part_of (suc (suc (suc zero))) = Some Outline
part_of (suc (suc (suc (suc n)))) = None

unfoldable pub part_at : Reader Part
part_at bytes = made_at byte_at part_of bytes

abbrev pub mode_of : ℕ → Option Blend
mode_of zero = Some Normal
mode_of (suc zero) = Some Multiply
mode_of (suc (suc zero)) = Some Screen
mode_of (suc (suc (suc zero))) = Some Darken
mode_of (suc (suc (suc (suc zero)))) = Some Lighten
mode_of (suc (suc (suc (suc (suc n))))) = None

unfoldable pub mode_at : Reader Blend
mode_at bytes = made_at byte_at mode_of bytes

abbrev pub flag_of : ℕ → Option Bool
flag_of zero = Some false
flag_of (suc zero) = Some true
flag_of (suc (suc n)) = None

unfoldable pub flag_at : Reader Bool
flag_at bytes = made_at byte_at flag_of bytes

abbrev pub color_of : (ℕ × ℕ) × (ℕ × ℕ) → Color
color_of p = record { r = p.0.0; g = p.0.1; b = p.1.0; a = p.1.1 }

unfoldable pub color_at : Reader Color
color_at bytes = made_at (pair_at (pair_at byte_at byte_at) (pair_at byte_at byte_at)) (λ p. Some (color_of p)) bytes
