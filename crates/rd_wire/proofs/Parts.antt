-- A value that is read is spelled by the bytes that were taken, and what is spelled is read again, whatever follows it.
use Rattle.std.proofs.Common.{◌≡◌, ℕ, suc, ◌+◌, ◌^◌, ◌<◌, ◌≤◌, Bool, true, false, cond, ltb, List, [], ◌∷◌, ◌++◌, length, get_or, take, drop, Option, Some, None, refl, sym, ap, subst, ◌∙◌, append_assoc, arith, inl, inr}
use Rattle.std.specs.Int.{Width, w16, w32, w64, byte_len, from_be_bytes, to_be_bytes}
use Rattle.std.proofs.lemmas.Bool.{cases_lt, ltb-false, le-ltb}
use Rattle.std.proofs.lemmas.List.{take_at, drop_at, take-append-drop, length-append, length-take, get_or-drop, get_or-take, get_or_past}
use Rattle.std.proofs.lemmas.Nat.{be_bytes_2, be_bytes_4, be_bytes_8, from_be_bytes-to_be_bytes_2, from_be_bytes-to_be_bytes_4, from_be_bytes-to_be_bytes_8}
use Rattle.rd_wire.specs.Internal.Reading.{Reader, ◌>>=◌, pair_at, made_at, byte_at, number_at}

abbrev pub IsBytes : List ℕ → Type 0
IsBytes bytes = (i : ℕ) → get_or bytes i 0 < 256

IsBytes-drop : (n : ℕ) (bytes : List ℕ) → IsBytes bytes → IsBytes (drop n bytes)
IsBytes-drop n bytes h i = rw get_or-drop (h (n + i))

IsBytes-take : (n : ℕ) (bytes : List ℕ) → IsBytes bytes → IsBytes (take n bytes)
IsBytes-take n bytes h i =
    elim (cases_lt i n) [
      | inl lt ↦ rw (get_or-take n bytes i 0 lt) (h i)
      | inr le ↦ rw (get_or_past (take n bytes) i 0 (omega (arith, length-take n bytes))) (omega arith)
    ]

pub IsBytes-rest : (b : ℕ) (bytes : List ℕ) → IsBytes (b ∷ bytes) → IsBytes bytes
IsBytes-rest b bytes h i = h (suc i)

-- the value of a step that did not fail
pub then_some : {A B : Type 0} (r : Option A) (f : A → Option B) (y : B) → (r >>= f) ≡ Some y → (x : A) × (r ≡ Some x) × (f x ≡ Some y)
then_some (Some x) f y e = (x, refl, e)
then_some None f y e = absurd cc

-- a test that did not fail
pub guard_some : {A : Type 0} (b : Bool) (x y : A) → cond b None (Some x) ≡ Some y → (b ≡ false) × (x ≡ y)
guard_some true x y e = absurd cc
guard_some false x y e = (refl, cc)

abbrev done : {A : Type 0} → A → Option A
done x = Some x

pub some_is : {A : Type 0} (x y : A) → done x ≡ done y → x ≡ y
some_is x y e = cc

-- what a reader took from the front
pub record Takes (bytes text rest : List ℕ) : Type 0 where
  pub parts : bytes ≡ text ++ rest
  pub rest_fits : IsBytes rest

pub Takes-then : (a x b y c : List ℕ) → Takes a x b → Takes b y c → Takes a (x ++ y) c
Takes-then a x b y c p q = record { parts = p.parts ∙ ap (λ (t : List ℕ). x ++ t) q.parts ∙ sym (append_assoc x y c); rest_fits = q.rest_fits }

-- A reader reads the values that fit, by their spelling.
pub record Reads {A : Type 0} (Fits : A → Type 0) (spell : A → List ℕ) (at : Reader A) : Type 0 where
  pub takes : (bytes : List ℕ) (x : A) (rest : List ℕ) → IsBytes bytes → at bytes ≡ Some (x, rest) → Takes bytes (spell x) rest × Fits x
  pub again : (x : A) (rest : List ℕ) → Fits x → at (spell x ++ rest) ≡ Some (x, rest)

module _ {A B : Type 0} where
  pub reads_pair : {F : A → Type 0} {s : A → List ℕ} {a : Reader A} {G : B → Type 0} {t : B → List ℕ} {b : Reader B} → Reads F s a → Reads G t b
      → Reads (λ (p : A × B). F p.0 × G p.1) (λ p. s p.0 ++ t p.1) (pair_at a b)
  reads_pair {F} {s} {a} {G} {t} {b} first second = record { takes = takes; again = again }
    where
      takes : (bytes : List ℕ) (x : A × B) (rest : List ℕ) → IsBytes bytes → pair_at a b bytes ≡ Some (x, rest) → Takes bytes (s x.0 ++ t x.1) rest × (F x.0 × G x.1)
      takes bytes x rest fits e =
          let p = then_some (a bytes) (λ y. b y.1 >>= λ z. Some ((y.0, z.0), z.1)) (x, rest) e in
          let q = then_some (b p.0.1) (λ z. Some ((p.0.0, z.0), z.1)) (x, rest) p.2 in
          let u = first.takes bytes p.0.0 p.0.1 fits p.1 in
          let v = second.takes p.0.1 q.0.0 q.0.1 u.0.rest_fits q.1 in
          subst (λ (y : (A × B) × List ℕ). Takes bytes (s y.0.0 ++ t y.0.1) y.1 × (F y.0.0 × G y.0.1)) (some_is ((p.0.0, q.0.0), q.0.1) (x, rest) q.2)
          (Takes-then bytes (s p.0.0) p.0.1 (t q.0.0) q.0.1 u.0 v.0, (u.1, v.1))

      again : (x : A × B) (rest : List ℕ) → F x.0 × G x.1 → pair_at a b ((s x.0 ++ t x.1) ++ rest) ≡ Some (x, rest)
      again x rest f =
          ap (pair_at a b) (append_assoc (s x.0) (t x.1) rest)
          ∙ rw (first.again x.0 (t x.1 ++ rest) f.0, second.again x.1 rest f.1) refl

  -- a value that is made of another one
  pub reads_made : {F : A → Type 0} {s : A → List ℕ} {a : Reader A} → Reads F s a → (to : A → Option B) (from : B → A) (G : B → Type 0)
      → ((x : A) (y : B) → F x → to x ≡ Some y → (from y ≡ x) × G y)
      → ((y : B) → G y → F (from y) × (to (from y) ≡ Some y))
      → Reads G (λ y. s (from y)) (made_at a to)
  reads_made {F} {s} {a} first to from G sound back = record { takes = takes; again = again }
    where
      takes : (bytes : List ℕ) (y : B) (rest : List ℕ) → IsBytes bytes → made_at a to bytes ≡ Some (y, rest) → Takes bytes (s (from y)) rest × G y
      takes bytes y rest fits e =
          let p = then_some (a bytes) (λ x. to x.0 >>= λ z. Some (z, x.1)) (y, rest) e in
          let q = then_some (to p.0.0) (λ z. Some (z, p.0.1)) (y, rest) p.2 in
          let u = first.takes bytes p.0.0 p.0.1 fits p.1 in
          let k = sound p.0.0 q.0 u.1 q.1 in
          let t : Takes bytes (s (from q.0)) p.0.1 = subst (λ (z : A). Takes bytes (s z) p.0.1) (sym k.0) u.0 in
          subst (λ (z : B × List ℕ). Takes bytes (s (from z.0)) z.1 × G z.0) (some_is (q.0, p.0.1) (y, rest) q.2) (t, k.1)

      again : (y : B) (rest : List ℕ) → G y → made_at a to (s (from y) ++ rest) ≡ Some (y, rest)
      again y rest g = let k = back y g in rw (first.again (from y) rest k.0, k.1) refl

-- ---- bytes and numbers

abbrev pub one_byte : ℕ → List ℕ
one_byte b = b ∷ []

pub reads_byte : Reads (λ b. b < 256) one_byte byte_at
reads_byte = record { takes = takes; again = λ b rest f. refl }
  where
    takes : (bytes : List ℕ) (b : ℕ) (rest : List ℕ) → IsBytes bytes → byte_at bytes ≡ Some (b, rest) → Takes bytes (one_byte b) rest × (b < 256)
    takes [] b rest fits e = absurd cc
    takes (c ∷ bytes) b rest fits e =
        subst (λ (y : ℕ × List ℕ). Takes (c ∷ bytes) (one_byte y.0) y.1 × (y.0 < 256)) (some_is (c, bytes) (b, rest) e)
        (record { parts = refl; rest_fits = IsBytes-rest c bytes fits }, fits 0)

pub record IsWide (w : Width) (limit : ℕ) : Type 0 where
  pub len : (n : ℕ) → length (to_be_bytes w n) ≡ byte_len w
  pub back : (bytes : List ℕ) → length bytes ≡ byte_len w → IsBytes bytes → to_be_bytes w (from_be_bytes w bytes) ≡ bytes
  pub again : (n : ℕ) → n < limit → from_be_bytes w (to_be_bytes w n) ≡ n
  pub below : (bytes : List ℕ) → IsBytes bytes → from_be_bytes w bytes < limit

wide16 : IsWide w16 (2 ^ 16)
wide16 = record {
  len = λ n. refl;
  back = λ bytes len fits. be_bytes_2 bytes _ len fits refl;
  again = λ n lt. from_be_bytes-to_be_bytes_2 n lt;
  below = λ bytes fits. omega (arith, fits 0, fits 1);
}

wide32 : IsWide w32 (2 ^ 32)
wide32 = record {
  len = λ n. refl;
  back = λ bytes len fits. be_bytes_4 bytes _ len fits refl;
  again = λ n lt. from_be_bytes-to_be_bytes_4 n lt;
  below = λ bytes fits. omega (arith, fits 0, fits 1, fits 2, fits 3);
}

wide64 : IsWide w64 (2 ^ 64)
wide64 = record {
  len = λ n. refl;
  back = λ bytes len fits. be_bytes_8 bytes _ len fits refl;
  again = λ n lt. from_be_bytes-to_be_bytes_8 n lt;
  below = λ bytes fits. omega (arith, fits 0, fits 1, fits 2, fits 3, fits 4, fits 5, fits 6, fits 7);
}

number_takes : (w : Width) (limit : ℕ) (wide : IsWide w limit) (bytes : List ℕ) (n : ℕ) (rest : List ℕ) → IsBytes bytes → number_at w bytes ≡ Some (n, rest) → Takes bytes (to_be_bytes w n) rest × (n < limit)
unfolding number_at
number_takes w limit wide bytes n rest fits e =
    let g = guard_some (ltb (length bytes) (byte_len w)) (from_be_bytes w (take (byte_len w) bytes), drop (byte_len w) bytes) (n, rest) e in
    let long : byte_len w ≤ length bytes = ltb-false _ _ g.0 in
    let n-is : from_be_bytes w (take (byte_len w) bytes) ≡ n = ap (λ (p : ℕ × List ℕ). p.0) g.1 in
    let rest-is : drop (byte_len w) bytes ≡ rest = ap (λ (p : ℕ × List ℕ). p.1) g.1 in
    let front : to_be_bytes w n ≡ take (byte_len w) bytes = rw (← n-is) (wide.back (take (byte_len w) bytes) (omega (arith, length-take (byte_len w) bytes)) (IsBytes-take (byte_len w) bytes fits)) in
    (record { parts = rw (front, ← rest-is) (sym (take-append-drop (byte_len w) bytes)); rest_fits = rw (← rest-is) (IsBytes-drop (byte_len w) bytes fits) }, rw (← n-is) (wide.below (take (byte_len w) bytes) (IsBytes-take (byte_len w) bytes fits)))

number_again : (w : Width) (limit : ℕ) (wide : IsWide w limit) (n : ℕ) (rest : List ℕ) → n < limit → number_at w (to_be_bytes w n ++ rest) ≡ Some (n, rest)
unfolding number_at
number_again w limit wide n rest lt =
    let len = wide.len n in
    let long : ltb (length (to_be_bytes w n ++ rest)) (byte_len w) ≡ false = le-ltb _ _ (omega (arith, length-append (to_be_bytes w n) rest)) in
    rw (long, take_at (to_be_bytes w n) rest (byte_len w) len, drop_at (to_be_bytes w n) rest (byte_len w) len, wide.again n lt) refl

reads_number : (w : Width) (limit : ℕ) → IsWide w limit → Reads (λ n. n < limit) (to_be_bytes w) (number_at w)
reads_number w limit wide = record { takes = number_takes w limit wide; again = number_again w limit wide }

pub reads_16 : Reads (λ n. n < 2 ^ 16) (to_be_bytes w16) (number_at w16)
reads_16 = reads_number w16 (2 ^ 16) wide16

pub reads_four : Reads (λ n. n < 2 ^ 32) (to_be_bytes w32) (number_at w32)
reads_four = reads_number w32 (2 ^ 32) wide32

pub reads_64 : Reads (λ n. n < 2 ^ 64) (to_be_bytes w64) (number_at w64)
reads_64 = reads_number w64 (2 ^ 64) wide64
