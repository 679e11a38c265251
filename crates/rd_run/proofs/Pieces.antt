-- Pieces, one after another.
use Rattle.std.proofs.Common.{◌≡◌, ℕ, zero, suc, ◌+◌, ◌<◌, List, [], ◌∷◌, ◌++◌, map, length, take, drop, get_or, refl, sym, ◌∙◌, ap, arith, append_assoc, append-nil, Option}
use Rattle.std.proofs.lemmas.List.{take_more}
use Rattle.std.specs.Io.KnownBytes.{Appends}
use Rattle.rd_io.specs.Causes.{GainsPart}
use Rattle.rd_io.proofs.Bytes.{appends_more}
use Rattle.rd_run.specs.Internal.Telling.{joined}

module _ {A : Type 0} (f : A → List ℕ) where
  joined-append : (xs ys : List A) → joined (map f (xs ++ ys)) ≡ joined (map f xs) ++ joined (map f ys)
  joined-append [] ys = refl
  joined-append (x ∷ xs) ys = ap (λ z. f x ++ z) (joined-append xs ys) ∙ sym (append_assoc (f x) (joined (map f xs)) (joined (map f ys)))

  -- one more piece
  joined_next : (xs : List A) (i : ℕ) (d : A) → i < length xs
      → joined (map f (take i xs)) ++ f (get_or xs i d) ≡ joined (map f (take (i + 1) xs))
  joined_next xs i d h =
      sym (ap (λ z. joined (map f z)) (take_more xs i d h) ∙ joined-append (take i xs) (get_or xs i d ∷ [])
      ∙ ap (λ z. joined (map f (take i xs)) ++ z) (append-nil (f (get_or xs i d))))

  -- the pieces so far, the next one and the others
  joined_split : (xs : List A) (i : ℕ) (d : A) → i < length xs
      → joined (map f (take i xs)) ++ (f (get_or xs i d) ++ joined (map f (drop (suc i) xs))) ≡ joined (map f xs)
  joined_split [] i d h = absurd (omega arith)
  joined_split (y ∷ ys) zero d h = refl
  joined_split (y ∷ ys) (suc i) d h =
      append_assoc (f y) (joined (map f (take i ys))) (f (get_or ys i d) ++ joined (map f (drop (suc i) ys))) ∙ ap (λ z. f y ++ z) (joined_split ys i d (omega arith))

  pub piece_next : (d : A) (xs : List A) (i : ℕ) (p : List ℕ) → i < length xs → p ≡ f (get_or xs i d)
      → joined (map f (take i xs)) ++ p ≡ joined (map f (take (i + 1) xs))
  piece_next d xs i p h e = ap (λ z. joined (map f (take i xs)) ++ z) e ∙ joined_next xs i d h

  pub piece_split : (d : A) (xs : List A) (i : ℕ) (p : List ℕ) → i < length xs → p ≡ f (get_or xs i d)
      → joined (map f (take i xs)) ++ (p ++ joined (map f (drop (suc i) xs))) ≡ joined (map f xs)
  piece_split d xs i p h e = ap (λ z. joined (map f (take i xs)) ++ (z ++ joined (map f (drop (suc i) xs)))) e ∙ joined_split xs i d h

-- a front was gained, and then a part of the next piece
pub part_on : (o m n : Option (List ℕ)) (front a rest all : List ℕ) → Appends o m front → GainsPart m n a
    → front ++ (a ++ rest) ≡ all → GainsPart o n all
part_on o m n front a rest all p q e = record {
  part = front ++ q.part;
  rest = q.rest ++ rest;
  whole = append_assoc front q.part (q.rest ++ rest) ∙ ap (λ z. front ++ z) (sym (append_assoc q.part q.rest rest) ∙ ap (λ z. z ++ rest) q.whole) ∙ e;
  gained = appends_more o m n front q.part p q.gained;
}

pub ruleset six_pieces = (append-nil, append_assoc)
