-- Reading a dump from left to right.
use Rattle.std.specs.Prelude.{◌≡◌, ℕ, zero, suc, ◌+◌, ◌-◌, ◌*◌, ◌^◌, ℤ, pos, negsuc, Bool, true, false, ◌&&◌, ◌||◌, ◌==◌, nat_lt, nat_le, if◌then◌else◌, List, [], ◌∷◌, codes, decimal, take, drop, Option, Some, None, Result, Ok, Err}
use Rattle.std.specs.Str.{bytes_eq}
use Rattle.std.specs.Str.Parse.{digits_value}
use Rattle.rd_geom.specs.declared.color.Color.{Color}
use Rattle.rd_geom.specs.declared.blend.Blend.{Blend}
use Rattle.rd_geom.specs.declared.blend.Blend.TheVariants.{Multiply, Screen, Darken, Lighten}
use Rattle.rd_keys.specs.declared.entry.Part.{Part}
use Rattle.rd_keys.specs.declared.entry.Part.TheVariants.{Back, Border, Content, Outline}
use Rattle.rd_tree.specs.Ids.{is_id}
use Rattle.rd_check.specs.declared.fault.CheckFault.{CheckFault}
use Rattle.rd_check.specs.declared.fault.CheckFault.TheVariants as faults

infixl 10 ◌>>=◌
abbrev pub ◌>>=◌ : {A B : Type 0} → Option A → (A → Option B) → Option B
None >>= f = None
(Some x) >>= f = f x

-- What a function returned, seen by view, is what reading gives, unless memory ran out.
abbrev pub Fails : {Y : Type 0} → CheckFault → Option Y → Type 0
Fails faults.NoMemory read = Unit {0}
Fails faults.Dump read = read ≡ None

abbrev pub Gives : {X Y : Type 0} → (X → Y) → Result X CheckFault → Option Y → Type 0
Gives view (Ok x) read = read ≡ Some (view x)
Gives view (Err e) read = Fails e read

-- a space or a newline
abbrev pub is_gap : ℕ → Bool
is_gap b = (b == 32) || (b == 10)

-- how many bytes stand before the first gap, or before the end
abbrev pub word_len : List ℕ → ℕ
word_len [] = 0
word_len (b ∷ bs) = if is_gap b then 0 else suc (word_len bs)

-- a word, and what comes after this gap
abbrev pub before_gap : ℕ → List ℕ → List ℕ → Option (List ℕ × List ℕ)
before_gap gap word [] = None
before_gap gap word (b ∷ rest) = if b == gap then Some (word, rest) else None

-- the bytes before the first gap, which is this one, and those after it
abbrev pub word_before : ℕ → List ℕ → Option (List ℕ × List ℕ)
word_before gap bytes = before_gap gap (take (word_len bytes) bytes) (drop (word_len bytes) bytes)

-- the value of a word before a gap
abbrev pub field : {X : Type 0} → (List ℕ → Option X) → ℕ → List ℕ → Option (X × List ℕ)
field read gap bytes = word_before gap bytes >>= λ w. read w.0 >>= λ x. Some (x, w.1)

-- the number below 2 ^ 64 whose decimal digits a word is
abbrev pub number_of : List ℕ → Option ℕ
number_of w = if nat_lt (digits_value 10 w) (2 ^ 64) && bytes_eq (decimal (digits_value 10 w)) w
    then Some (digits_value 10 w) else None

-- the same with a minus before it, where it is not 0; no farther from 0 than a rectangle may be wide
abbrev pub negative : Option ℕ → Option ℤ
negative None = None
negative (Some zero) = None
negative (Some (suc n)) = if nat_le n 1999999999 then Some (negsuc n) else None

abbrev pub positive : Option ℕ → Option ℤ
positive None = None
positive (Some n) = if nat_le n 2000000000 then Some (pos n) else None

abbrev pub signed_of : List ℕ → Option ℤ
signed_of [] = None
signed_of (c ∷ w) = if c == 45 then negative (number_of w) else positive (number_of (c ∷ w))

-- a byte
abbrev pub byte_of : List ℕ → Option ℕ
byte_of w = number_of w >>= λ n. if nat_lt n 256 then Some n else None

-- an id
abbrev pub id_word : List ℕ → Option (List ℕ)
id_word w = if is_id w then Some w else None

-- this word
abbrev pub word_is : List ℕ → List ℕ → Option (Unit {0})
word_is text w = if bytes_eq w text then Some tt else None

-- the part that a word names
abbrev pub part_of : List ℕ → Option Part
part_of w =
    if bytes_eq w (codes "back") then Some Back else
    if bytes_eq w (codes "border") then Some Border else
    if bytes_eq w (codes "content") then Some Content else
    if bytes_eq w (codes "outline") then Some Outline else None

-- whether a word says that hits are taken
abbrev pub pointer_of : List ℕ → Option Bool
pointer_of w = if bytes_eq w (codes "auto") then Some true else
    if bytes_eq w (codes "none") then Some false else None

-- the blend mode that a word names; a dump does not name the normal one
abbrev pub mode_of : List ℕ → Option Blend
mode_of w =
    if bytes_eq w (codes "multiply") then Some Multiply else
    if bytes_eq w (codes "screen") then Some Screen else
    if bytes_eq w (codes "darken") then Some Darken else
    if bytes_eq w (codes "lighten") then Some Lighten else None

-- a lower-case hexadecimal digit
abbrev pub digit_of : ℕ → Option ℕ
digit_of c =
    if nat_le 48 c && nat_le c 57 then Some (c - 48) else
    if nat_le 97 c && nat_le c 102 then Some (c - 87) else None

-- two of them
abbrev pub hex_of : ℕ → ℕ → Option ℕ
hex_of a b = digit_of a >>= λ x. digit_of b >>= λ y. Some (x * 16 + y)

-- eight of them
abbrev pub color_of : List ℕ → Option Color
color_of (a ∷ b ∷ c ∷ d ∷ e ∷ f ∷ g ∷ h ∷ []) =
    hex_of a b >>= λ red. hex_of c d >>= λ green. hex_of e f >>= λ blue. hex_of g h >>= λ alpha.
    Some (record { r = red; g = green; b = blue; a = alpha })
color_of _ = None

-- one value after another
infixr 6 ◌⊗◌
abbrev pub ◌⊗◌ : {X Y : Type 0} → (List ℕ → Option (X × List ℕ)) → (List ℕ → Option (Y × List ℕ)) → List ℕ → Option ((X × Y) × List ℕ)
(r ⊗ s) bytes = r bytes >>= λ x. s x.1 >>= λ y. Some ((x.0, y.0), y.1)

-- a value, or another where there is none
abbrev pub or_else : {X : Type 0} → Option X → Option X → Option X
or_else None other = other
or_else (Some x) other = Some x

-- a value in place of another, where it has one
abbrev pub made_by : {X Y : Type 0} → (X → Option Y) → (List ℕ → Option (X × List ℕ)) → List ℕ → Option (Y × List ℕ)
made_by f r bytes = r bytes >>= λ x. f x.0 >>= λ y. Some (y, x.1)
