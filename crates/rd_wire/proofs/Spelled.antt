-- The parts of entries that are read are those that are spelled.
use Rattle.std.proofs.Common.{◌≡◌, ℕ, ℤ, pos, zero, suc, ◌^◌, ◌<◌, ◌≤ℤ◌, ◌&&◌, Bool, true, false, cond, List, ◌++◌, Some, None, refl, sym, ap, subst, ◌∙◌, arith}
use Rattle.std.specs.Prelude.{FitsSigned, int_le}
use Rattle.std.specs.Int.{w32, cast_unsigned, cast_signed}
use Rattle.std.proofs.lemmas.Int.{ints, to_z-of_z, of_z-to_z}
use Rattle.rd_geom.specs.Plane.{Rectangle, IsPlaced, int_low, right, bottom}
use Rattle.rd_geom.specs.Figures.{max_reach}
use Rattle.rd_geom.specs.declared.blend.Blend.{Blend}
use Rattle.rd_geom.specs.declared.blend.Blend.TheVariants.{Normal, Multiply, Screen, Darken, Lighten}
use Rattle.rd_geom.specs.declared.color.Color.{Color}
use Rattle.rd_keys.specs.Keys.{BoxKey}
use Rattle.rd_keys.specs.declared.entry.Part.{Part}
use Rattle.rd_keys.specs.declared.entry.Part.TheVariants.{Back, Border, Content, Outline}
use Rattle.rd_wire.specs.Fields.{number, whole, key, part, mode, rectangle, color, flag, IsKey, IsColor}
use Rattle.rd_wire.specs.Internal.Reading.{Reader, number_at, whole_at, is_placed, rect_of, placed, rect_at, key_of, key_at, part_of, part_at, mode_of, mode_at, flag_of, flag_at, color_of, color_at}
use Rattle.rd_wire.proofs.Parts.{Reads, Takes, one_byte, reads_pair, reads_made, reads_byte, reads_four, some_is}

pub both : (a b : Bool) → (a && b) ≡ true → (a ≡ true) × (b ≡ true)
both true true h = (refl, refl)
both true false h = absurd cc
both false b h = absurd cc

pub le_true : (a b : ℤ) → int_le a b ≡ true → a ≤ℤ b
le_true a b h = grind (arith, ints)

pub true_le : (a b : ℤ) → a ≤ℤ b → int_le a b ≡ true
true_le a b h = grind (arith, ints)

pub placed_true : (r : Rectangle) → IsPlaced r → is_placed r ≡ true
placed_true r p =
    rw (true_le (pos 0) r.w p.wide, true_le (pos 0) r.h p.high, true_le int_low r.x p.from_left, true_le int_low r.y p.from_top, true_le (right r) max_reach p.to_right, true_le (bottom r) max_reach p.to_bottom) refl

pub true_placed : (r : Rectangle) → is_placed r ≡ true → IsPlaced r
true_placed r h =
    let a = both _ (int_le (bottom r) max_reach) h in
    let b = both _ (int_le (right r) max_reach) a.0 in
    let c = both _ (int_le int_low r.y) b.0 in
    let d = both _ (int_le int_low r.x) c.0 in
    let e = both (int_le (pos 0) r.w) (int_le (pos 0) r.h) d.0 in
    record {
      wide = le_true _ _ e.0;
      high = le_true _ _ e.1;
      from_left = le_true _ _ d.1;
      from_top = le_true _ _ c.1;
      to_right = le_true _ _ b.1;
      to_bottom = le_true _ _ a.1;
    }

-- what a test lets through
pub let_through : {A : Type 0} (b : Bool) (x y : A) → cond b (Some x) None ≡ Some y → (b ≡ true) × (x ≡ y)
let_through true x y e = (refl, cc)
let_through false x y e = absurd cc

pub reads_32 : Reads (λ n. n < 2 ^ 32) number (number_at w32)
unfolding number
reads_32 = reads_four

pub reads_whole : Reads (FitsSigned w32) whole whole_at
unfolding whole_at whole
reads_whole = reads_made reads_32 (λ n. Some (cast_signed w32 n)) (cast_unsigned w32) (FitsSigned w32)
    (λ n z f e. let k = some_is (cast_signed w32 n) z e in (ap (cast_unsigned w32) (sym k) ∙ of_z-to_z w32 n f, subst (FitsSigned w32) k (signed_fits n f)))
    (λ z f. (unsigned_fits z f, ap Some (to_z-of_z w32 z f)))
  where
    signed_fits : (n : ℕ) → n < 2 ^ 32 → FitsSigned w32 (cast_signed w32 n)
    signed_fits n f = grind (arith, ints)

    unsigned_fits : (z : ℤ) → FitsSigned w32 z → cast_unsigned w32 z < 2 ^ 32
    unsigned_fits z f = grind (arith, ints)

pub reads_rect : Reads IsPlaced rectangle rect_at
unfolding rect_at
reads_rect = reads_made (reads_pair (reads_pair reads_whole reads_whole) (reads_pair reads_whole reads_whole)) placed (λ r. ((r.x, r.y), (r.w, r.h))) IsPlaced
    (λ p r f e. let k = let_through (is_placed (rect_of p)) (rect_of p) r e in
    (ap (λ (q : Rectangle). ((q.x, q.y), (q.w, q.h))) (sym k.1), subst IsPlaced k.1 (true_placed (rect_of p) k.0)))
    (λ r p. (((fits_x r p, fits_y r p), (fits_w r p, fits_h r p)), let t = placed_true r p in rw t refl))
  where
    fits_x : (r : Rectangle) → IsPlaced r → FitsSigned w32 r.x
    fits_x r p = let a = p.from_left in let b = p.to_right in let c = p.wide in grind (arith, ints)

    fits_y : (r : Rectangle) → IsPlaced r → FitsSigned w32 r.y
    fits_y r p = let a = p.from_top in let b = p.to_bottom in let c = p.high in grind (arith, ints)

    fits_w : (r : Rectangle) → IsPlaced r → FitsSigned w32 r.w
    fits_w r p = let a = p.from_left in let b = p.to_right in let c = p.wide in grind (arith, ints)

    fits_h : (r : Rectangle) → IsPlaced r → FitsSigned w32 r.h
    fits_h r p = let a = p.from_top in let b = p.to_bottom in let c = p.high in grind (arith, ints)

pub reads_key : Reads IsKey key key_at
unfolding key_at
reads_key = reads_made (reads_pair reads_32 reads_32) (λ p. Some (key_of p)) (λ k. (k.slot, k.generation)) IsKey
    (λ p k f e. let i = some_is (key_of p) k e in
    (ap (λ (q : BoxKey). (q.slot, q.generation)) (sym i), subst IsKey i (record { slot = f.0; generation = f.1 })))
    (λ k f. ((f.slot, f.generation), refl))

pub reads_color : Reads IsColor color color_at
unfolding color_at
reads_color = reads_made (reads_pair (reads_pair reads_byte reads_byte) (reads_pair reads_byte reads_byte)) (λ p. Some (color_of p)) (λ c. ((c.r, c.g), (c.b, c.a))) IsColor
    (λ p c f e. let i = some_is (color_of p) c e in
    (ap (λ (q : Color). ((q.r, q.g), (q.b, q.a))) (sym i), subst IsColor i (record { red = f.0.0; green = f.0.1; blue = f.1.0; opacity = f.1.1 })))
    (λ c f. (((f.red, f.green), (f.blue, f.opacity)), refl))

-- every part, every flag
abbrev pub Every : {A : Type 0} → A → Type 0
Every x = Unit {0}

abbrev part_number : Part → ℕ
part_number Back = 0
part_number Border = 1
part_number Content = 2
part_number Outline = 3

part_sound : (n : ℕ) (p : Part) → part_of n ≡ Some p → part_number p ≡ n
part_sound zero p e = ap part_number (sym (some_is Back p e))
part_sound (suc zero) p e = ap part_number (sym (some_is Border p e))
part_sound (suc (suc zero)) p e = ap part_number (sym (some_is Content p e))
part_sound (suc (suc (suc zero))) p e = ap part_number (sym (some_is Outline p e))
part_sound (suc (suc (suc (suc n)))) p e = absurd cc

part_back : (p : Part) → (part_number p < 256) × (part_of (part_number p) ≡ Some p)
part_back Back = (omega arith, refl)
part_back Border = (omega arith, refl)
part_back Content = (omega arith, refl)
part_back Outline = (omega arith, refl)

part_spelled : (p : Part) → one_byte (part_number p) ≡ part p
part_spelled Back = refl
part_spelled Border = refl
part_spelled Content = refl
part_spelled Outline = refl

-- another word for the spelling
pub respelled : {A : Type 0} {F : A → Type 0} {s : A → List ℕ} {a : Reader A} → Reads F s a → (t : A → List ℕ) → ((x : A) → s x ≡ t x) → Reads F t a
respelled {A} {F} {s} {a} r t same = record {
  takes = λ bytes x rest fits e. let u = r.takes bytes x rest fits e in
      (subst (λ (w : List ℕ). Takes bytes w rest) (same x) u.0, u.1);
  again = λ x rest f. subst (λ (w : List ℕ). a (w ++ rest) ≡ Some (x, rest)) (same x) (r.again x rest f);
}

pub reads_part : Reads Every part part_at
unfolding part_at
reads_part = respelled (reads_made reads_byte part_of part_number Every (λ n p f e. (part_sound n p e, tt)) (λ p f. part_back p)) part part_spelled

abbrev mode_number : Blend → ℕ
mode_number Normal = 0
mode_number Multiply = 1
mode_number Screen = 2
mode_number Darken = 3
mode_number Lighten = 4

mode_sound : (n : ℕ) (m : Blend) → mode_of n ≡ Some m → mode_number m ≡ n
mode_sound zero m e = ap mode_number (sym (some_is Normal m e))
mode_sound (suc zero) m e = ap mode_number (sym (some_is Multiply m e))
mode_sound (suc (suc zero)) m e = ap mode_number (sym (some_is Screen m e))
mode_sound (suc (suc (suc zero))) m e = ap mode_number (sym (some_is Darken m e))
mode_sound (suc (suc (suc (suc zero)))) m e = ap mode_number (sym (some_is Lighten m e))
mode_sound (suc (suc (suc (suc (suc n))))) m e = absurd cc

mode_back : (m : Blend) → (mode_number m < 256) × (mode_of (mode_number m) ≡ Some m)
mode_back Normal = (omega arith, refl)
mode_back Multiply = (omega arith, refl)
mode_back Screen = (omega arith, refl)
mode_back Darken = (omega arith, refl)
mode_back Lighten = (omega arith, refl)

mode_spelled : (m : Blend) → one_byte (mode_number m) ≡ mode m
mode_spelled Normal = refl
mode_spelled Multiply = refl
mode_spelled Screen = refl
mode_spelled Darken = refl
mode_spelled Lighten = refl

pub reads_mode : Reads Every mode mode_at
unfolding mode_at
reads_mode = respelled (reads_made reads_byte mode_of mode_number Every (λ n m f e. (mode_sound n m e, tt)) (λ m f. mode_back m)) mode mode_spelled

abbrev flag_number : Bool → ℕ
flag_number false = 0
flag_number true = 1

flag_sound : (n : ℕ) (b : Bool) → flag_of n ≡ Some b → flag_number b ≡ n
flag_sound zero b e = ap flag_number (sym (some_is false b e))
flag_sound (suc zero) b e = ap flag_number (sym (some_is true b e))
flag_sound (suc (suc n)) b e = absurd cc

flag_back : (b : Bool) → (flag_number b < 256) × (flag_of (flag_number b) ≡ Some b)
flag_back true = (omega arith, refl)
flag_back false = (omega arith, refl)

flag_spelled : (b : Bool) → one_byte (flag_number b) ≡ flag b
flag_spelled true = refl
flag_spelled false = refl

pub reads_flag : Reads Every flag flag_at
unfolding flag_at
reads_flag = respelled (reads_made reads_byte flag_of flag_number Every (λ n b f e. (flag_sound n b e, tt)) (λ b f. flag_back b)) flag flag_spelled
