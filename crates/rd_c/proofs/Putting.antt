-- Pieces of one length that are written one after another.
use Rattle.rd_geom.specs.Colors.{Premultiplied}
use Rattle.rd_c.specs.Copied.{quad, bytes_wanted}
use Rattle.std.proofs.Common.{rules, ◌≡◌, ℕ, zero, suc, ◌+◌, ◌*◌, ◌-◌, ◌<◌, ◌≤◌, List, [], ◌∷◌, ◌++◌, length, take, drop, get_or, refl, sym, ◌∙◌, ap, arith, append-nil, append_assoc, length-append, length-take-le}
use Rattle.std.specs.Prelude.{flat_map}
use Rattle.std.proofs.lemmas.List.{take_more, drop-drop}
use Rattle.std.proofs.lemmas.Grind.{flat_map-append}
use Rattle.std.proofs.Math.Nat.{mul-le-mul_right}
use Rattle.std.proofs.Math.Seq.{take-append_seam, drop-append-add}

-- the length of so many pieces
pub length-pieces : {A B : Type 0} (f : A → List B) (w : ℕ) → ((a : A) → length (f a) ≡ w) → (xs : List A) → length (flat_map f xs) ≡ w * length xs
length-pieces f w len [] = omega arith
length-pieces f w len (x ∷ xs) = let h = len x in let r = length-pieces f w len xs in let s = length-append (f x) (flat_map f xs) in omega (arith, h, r, s)

-- one more piece
pub put_more : {A B : Type 0} (f : A → List B) (w : ℕ) → ((a : A) → length (f a) ≡ w) → (ps : List A) (i : ℕ) (d : A) (old now then : List B) → i < length ps
    → now ≡ flat_map f (take i ps) ++ drop (w * i) old → then ≡ take (w * i) now ++ (f (get_or ps i d) ++ drop (w * i + w) now)
    → then ≡ flat_map f (take (i + 1) ps) ++ drop (w * (i + 1)) old
put_more f w len ps i d old now then h was is =
    let front = flat_map f (take i ps) in let q = f (get_or ps i d) in
    let e : length front ≡ w * i = length-pieces f w len (take i ps) ∙ ap (λ n. w * n) (length-take-le i ps (omega (arith, h))) in
    let begins : take (w * i) now ≡ front = ap (λ n. take n now) (sym e) ∙ ap (take (length front)) was ∙ take-append_seam front (drop (w * i) old) in
    let m : w * i + w ≡ w * (i + 1) = omega arith in
    let ends : drop (w * i + w) now ≡ drop (w * (i + 1)) old =
    ap (λ n. drop (n + w) now) (sym e) ∙ ap (drop (length front + w)) was ∙ drop-append-add front (drop (w * i) old) w ∙ drop-drop w (w * i) old ∙ ap (λ n. drop n old) m in
    let more : flat_map f (take (i + 1) ps) ≡ front ++ q = ap (flat_map f) (take_more ps i d h) ∙ flat_map-append f (take i ps) (get_or ps i d ∷ []) ∙ ap (λ z. front ++ z) (append-nil q) in
    is ∙ ap (λ z. z ++ (q ++ drop (w * i + w) now)) begins ∙ ap (λ z. front ++ (q ++ z)) ends ∙ sym (append_assoc front q (drop (w * (i + 1)) old)) ∙ ap (λ z. z ++ drop (w * (i + 1)) old) (sym more)

-- a pixel is four bytes
pub length-quad : (format : ℕ) (p : Premultiplied) → length (quad format p) ≡ 4
length-quad format p = search rules

-- the bytes of some rows
pub bytes_at : (rows stride width : ℕ) → 0 < rows → bytes_wanted rows stride width ≡ (rows - 1) * stride + width
bytes_at zero stride width h = absurd (omega (arith, h))
bytes_at (suc above) stride width h = let e : suc above - 1 ≡ above = omega arith in rw e refl

-- each row lies in them
pub rows_within : (rows stride width i : ℕ) → i < rows → i * stride + width ≤ bytes_wanted rows stride width
rows_within zero stride width i h = absurd (omega (arith, h))
rows_within (suc above) stride width i h = let le : i ≤ above = omega (arith, h) in let m = mul-le-mul_right stride le in omega (arith, m)

pub ruleset rows = (bytes_at, rows_within)
