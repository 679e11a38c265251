-- Readers: what is taken is the text of a value, and the text of a value is taken, whatever follows.
use Rattle.std.proofs.Common.{◌≡◌, ℕ, suc, ◌+◌, Bool, true, false, cond, eqb, List, [], ◌∷◌, ◌++◌, length, take, drop, Option, Some, None, refl, sym, ap, subst, ◌∙◌, append_assoc}
use Rattle.std.specs.Prelude.{not}
use Rattle.std.specs.List.{list_all}
use Rattle.std.proofs.lemmas.Bool.{eqb-true, eq-eqb, and_parts, not-true}
use Rattle.std.proofs.lemmas.List.{take-append-drop, take_at, drop_at}
use Rattle.rd_check.specs.Internal.Reading.{◌>>=◌, is_gap, word_len, before_gap, word_before, field, ◌⊗◌, made_by}

-- the value of a step that gave one
pub bind_some : {A B : Type 0} (r : Option A) (f : A → Option B) (y : B) → (r >>= f) ≡ Some y → (x : A) × (r ≡ Some x) × (f x ≡ Some y)
bind_some None f y e = absurd cc
bind_some (Some x) f y e = (x, refl, e)

-- the two parts of a value that a step gave
pub parts_are : {A B : Type 0} (x y : A × B) → Some x ≡ Some y → (x.0 ≡ y.0) × (x.1 ≡ y.1)
parts_are {A} {B} x y e = let s : x ≡ y = cc in (ap (λ (p : A × B). p.0) s, ap (λ (p : A × B). p.1) s)

pub record IsReader {X : Type 0} (read : List ℕ → Option (X × List ℕ)) (text : X → List ℕ) (Fits : X → Type 0) : Type 0 where
  pub takes : (bytes : List ℕ) (x : X) (rest : List ℕ) → read bytes ≡ Some (x, rest) → (bytes ≡ text x ++ rest) × Fits x
  pub again : (x : X) (rest : List ℕ) → Fits x → read (text x ++ rest) ≡ Some (x, rest)

-- no gap is in it
abbrev pub IsWord : List ℕ → Type 0
IsWord w = list_all (λ b. not (is_gap b)) w ≡ true

pub record IsWordCode {X : Type 0} (read : List ℕ → Option X) (text : X → List ℕ) (Fits : X → Type 0) : Type 0 where
  pub back : (w : List ℕ) (x : X) → read w ≡ Some x → (w ≡ text x) × Fits x
  pub again : (x : X) → Fits x → read (text x) ≡ Some x
  pub whole : (x : X) → Fits x → IsWord (text x)

-- ---- words

pub word_takes : (gap : ℕ) (bytes w rest : List ℕ) → word_before gap bytes ≡ Some (w, rest) → bytes ≡ w ++ gap ∷ rest
word_takes gap bytes w rest h = by_rest (drop (word_len bytes) bytes) refl h
  where
    by_test : (b : ℕ) (r : List ℕ) (t : Bool) → eqb b gap ≡ t → drop (word_len bytes) bytes ≡ b ∷ r
        → cond {A = Option (List ℕ × List ℕ)} t (Some (take (word_len bytes) bytes, r)) None ≡ Some (w, rest) → bytes ≡ w ++ gap ∷ rest
    by_test b r true is e h =
        let parts = parts_are (take (word_len bytes) bytes, r) (w, rest) h in
        let front : take (word_len bytes) bytes ≡ w = parts.0 in
        let back : r ≡ rest = parts.1 in
        sym (take-append-drop (word_len bytes) bytes) ∙ ap (λ z. take (word_len bytes) bytes ++ z) e
        ∙ ap (λ z. z ++ b ∷ r) front ∙ ap (λ z. w ++ z ∷ r) (eqb-true b gap is) ∙ ap (λ z. w ++ gap ∷ z) back
    by_test b r false is e h = absurd cc

    by_rest : (r : List ℕ) → drop (word_len bytes) bytes ≡ r → before_gap gap (take (word_len bytes) bytes) r ≡ Some (w, rest) → bytes ≡ w ++ gap ∷ rest
    by_rest [] e h = absurd cc
    by_rest (b ∷ r) e h = by_test b r (eqb b gap) refl e h

word_len_at : (gap : ℕ) (w rest : List ℕ) → is_gap gap ≡ true → IsWord w → word_len (w ++ gap ∷ rest) ≡ length w
word_len_at gap [] rest g h = rw g refl
word_len_at gap (b ∷ w) rest g h =
    let p = and_parts (not (is_gap b)) (list_all (λ b. not (is_gap b)) w) h in
    let f : is_gap b ≡ false = not-true (is_gap b) p.0 in
    rw f (ap suc (word_len_at gap w rest g p.1))

pub word_again : (gap : ℕ) (w rest : List ℕ) → is_gap gap ≡ true → IsWord w → word_before gap (w ++ gap ∷ rest) ≡ Some (w, rest)
word_again gap w rest g h =
    let n = word_len_at gap w rest g h in
    let t : take (word_len (w ++ gap ∷ rest)) (w ++ gap ∷ rest) ≡ w = ap (λ k. take k (w ++ gap ∷ rest)) n ∙ take_at w (gap ∷ rest) (length w) refl in
    let d : drop (word_len (w ++ gap ∷ rest)) (w ++ gap ∷ rest) ≡ gap ∷ rest = ap (λ k. drop k (w ++ gap ∷ rest)) n ∙ drop_at w (gap ∷ rest) (length w) refl in
    ap (λ z. before_gap gap z (drop (word_len (w ++ gap ∷ rest)) (w ++ gap ∷ rest))) t
    ∙ ap (before_gap gap w) d ∙ rw (eq-eqb gap gap refl) refl

-- a word before another gap
pub word_other : (gap other : ℕ) (w rest : List ℕ) → is_gap other ≡ true → eqb other gap ≡ false → IsWord w → word_before gap (w ++ other ∷ rest) ≡ None
word_other gap other w rest g ne h =
    let n = word_len_at other w rest g h in
    let t : take (word_len (w ++ other ∷ rest)) (w ++ other ∷ rest) ≡ w = ap (λ k. take k (w ++ other ∷ rest)) n ∙ take_at w (other ∷ rest) (length w) refl in
    let d : drop (word_len (w ++ other ∷ rest)) (w ++ other ∷ rest) ≡ other ∷ rest = ap (λ k. drop k (w ++ other ∷ rest)) n ∙ drop_at w (other ∷ rest) (length w) refl in
    ap (λ z. before_gap gap z (drop (word_len (w ++ other ∷ rest)) (w ++ other ∷ rest))) t
    ∙ ap (before_gap gap w) d ∙ rw ne refl

-- ---- fields

module _ {X : Type 0} (read : List ℕ → Option X) (text : X → List ℕ) (Fits : X → Type 0) (code : IsWordCode read text Fits) (gap : ℕ) (is : is_gap gap ≡ true) where
  field_takes : (bytes : List ℕ) (x : X) (rest : List ℕ) → field read gap bytes ≡ Some (x, rest) → (bytes ≡ (text x ++ gap ∷ []) ++ rest) × Fits x
  field_takes bytes x rest e =
      let a = bind_some (word_before gap bytes) (λ w. read w.0 >>= λ y. Some (y, w.1)) (x, rest) e in
      let b = bind_some (read a.0.0) (λ y. Some (y, a.0.1)) (x, rest) a.2 in
      let parts = parts_are (b.0, a.0.1) (x, rest) b.2 in
      let same : b.0 ≡ x = parts.0 in
      let left : a.0.1 ≡ rest = parts.1 in
      let t = code.back a.0.0 b.0 b.1 in (
        word_takes gap bytes a.0.0 a.0.1 a.1 ∙ ap (λ z. z ++ gap ∷ a.0.1) t.0 ∙ ap (λ z. text z ++ gap ∷ a.0.1) same
            ∙ ap (λ z. text x ++ gap ∷ z) left ∙ sym (append_assoc (text x) (gap ∷ []) rest),
        subst Fits same t.1,
      )

  field_again : (x : X) (rest : List ℕ) → Fits x → field read gap ((text x ++ gap ∷ []) ++ rest) ≡ Some (x, rest)
  field_again x rest h =
      ap (field read gap) (append_assoc (text x) (gap ∷ []) rest)
      ∙ ap (λ w. w >>= λ w. read w.0 >>= λ y. Some (y, w.1)) (word_again gap (text x) rest is (code.whole x h))
      ∙ ap (λ w. w >>= λ y. Some (y, rest)) (code.again x h)

  pub field_reader : IsReader (field read gap) (λ x. text x ++ gap ∷ []) Fits
  field_reader = record { takes = field_takes; again = field_again }

-- ---- one after another

module _ {X Y : Type 0} (r : List ℕ → Option (X × List ℕ)) (t : X → List ℕ) (F : X → Type 0) (s : List ℕ → Option (Y × List ℕ)) (u : Y → List ℕ) (G : Y → Type 0)
    (first : IsReader r t F) (second : IsReader s u G) where
  pair_takes : (bytes : List ℕ) (p : X × Y) (rest : List ℕ) → (r ⊗ s) bytes ≡ Some (p, rest) → (bytes ≡ (t p.0 ++ u p.1) ++ rest) × (F p.0 × G p.1)
  pair_takes bytes p rest e =
      let a = bind_some (r bytes) (λ x. s x.1 >>= λ y. Some ((x.0, y.0), y.1)) (p, rest) e in
      let b = bind_some (s a.0.1) (λ y. Some ((a.0.0, y.0), y.1)) (p, rest) a.2 in
      let f = first.takes bytes a.0.0 a.0.1 a.1 in
      let g = second.takes a.0.1 b.0.0 b.0.1 b.1 in
      let made : X × Y = (a.0.0, b.0.0) in
      let parts = parts_are (made, b.0.1) (p, rest) b.2 in
      let same : made ≡ p = parts.0 in
      let left : b.0.1 ≡ rest = parts.1 in (
        f.0 ∙ ap (λ z. t a.0.0 ++ z) g.0 ∙ ap (λ z. t a.0.0 ++ (u b.0.0 ++ z)) left ∙ sym (append_assoc (t a.0.0) (u b.0.0) rest)
            ∙ ap (λ (z : X × Y). (t z.0 ++ u z.1) ++ rest) same,
        subst (λ (z : X × Y). F z.0 × G z.1) same (f.1, g.1),
      )

  pair_again : (p : X × Y) (rest : List ℕ) → F p.0 × G p.1 → (r ⊗ s) ((t p.0 ++ u p.1) ++ rest) ≡ Some (p, rest)
  pair_again p rest h =
      ap (r ⊗ s) (append_assoc (t p.0) (u p.1) rest)
      ∙ ap (λ z. z >>= λ x. s x.1 >>= λ y. Some ((x.0, y.0), y.1)) (first.again p.0 (u p.1 ++ rest) h.0)
      ∙ ap (λ z. z >>= λ y. Some ((p.0, y.0), y.1)) (second.again p.1 rest h.1)

  pub pair_reader : IsReader (r ⊗ s) (λ p. t p.0 ++ u p.1) (λ p. F p.0 × G p.1)
  pair_reader = record { takes = pair_takes; again = pair_again }

-- ---- one value in place of another

pub record IsMade {X Y : Type 0} (f : X → Option Y) (g : Y → X) (F : X → Type 0) (G : Y → Type 0) : Type 0 where
  pub there : (x : X) (y : Y) → f x ≡ Some y → F x → (x ≡ g y) × G y
  pub back : (y : Y) → G y → F (g y) × (f (g y) ≡ Some y)

module _ {X Y : Type 0} (f : X → Option Y) (g : Y → X) (F : X → Type 0) (G : Y → Type 0) (made : IsMade f g F G)
    (r : List ℕ → Option (X × List ℕ)) (t : X → List ℕ) (reader : IsReader r t F) where
  made_takes : (bytes : List ℕ) (y : Y) (rest : List ℕ) → made_by f r bytes ≡ Some (y, rest) → (bytes ≡ t (g y) ++ rest) × G y
  made_takes bytes y rest e =
      let a = bind_some (r bytes) (λ x. f x.0 >>= λ y. Some (y, x.1)) (y, rest) e in
      let b = bind_some (f a.0.0) (λ y. Some (y, a.0.1)) (y, rest) a.2 in
      let parts = parts_are (b.0, a.0.1) (y, rest) b.2 in
      let same : b.0 ≡ y = parts.0 in
      let left : a.0.1 ≡ rest = parts.1 in
      let k = reader.takes bytes a.0.0 a.0.1 a.1 in
      let m = made.there a.0.0 b.0 b.1 k.1 in (
        k.0 ∙ ap (λ z. t z ++ a.0.1) m.0 ∙ ap (λ z. t (g z) ++ a.0.1) same ∙ ap (λ z. t (g y) ++ z) left,
        subst G same m.1,
      )

  made_again : (y : Y) (rest : List ℕ) → G y → made_by f r (t (g y) ++ rest) ≡ Some (y, rest)
  made_again y rest h =
      let m = made.back y h in
      ap (λ z. z >>= λ x. f x.0 >>= λ y. Some (y, x.1)) (reader.again (g y) rest m.0)
      ∙ ap (λ z. z >>= λ y. Some (y, rest)) m.1

  pub made_reader : IsReader (made_by f r) (λ y. t (g y)) G
  made_reader = record { takes = made_takes; again = made_again }
