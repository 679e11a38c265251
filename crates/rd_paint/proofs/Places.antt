-- Elements changed by their places.
use Rattle.std.proofs.Common.{◌≡◌, ℕ, zero, suc, ◌+◌, ◌<◌, ◌≤◌, List, [], ◌∷◌, length, get_or, refl, sym, ap, ◌∙◌, arith, subst, replicate}
use Rattle.std.proofs.lemmas.List.{same_lists, get_or_default, length-replicate, get_or-replicate}
use Rattle.rd_geom.specs.Colors.{Premultiplied, clear}
use Rattle.rd_paint.specs.Internal.Runs.{each_from, each_at}

-- a loop over places that has changed the first i
pub record IsDone (f : ℕ → Premultiplied → Premultiplied) (old new : List Premultiplied) (i : ℕ) : Type 0 where
  pub len : length new ≡ length old
  pub done : (k : ℕ) → k < i → get_or new k clear ≡ f k (get_or old k clear)
  pub rest : (k : ℕ) → i ≤ k → get_or new k clear ≡ get_or old k clear

module _ {A : Type 0} where
  pub length-each_from : (i : ℕ) (f : ℕ → A → A) (xs : List A) → length (each_from i f xs) ≡ length xs
  length-each_from i f [] = refl
  length-each_from i f (x ∷ xs) = ap suc (length-each_from (suc i) f xs)

  pub get_or-each_from : (i : ℕ) (f : ℕ → A → A) (xs : List A) (k : ℕ) (d : A) → k < length xs → get_or (each_from i f xs) k d ≡ f (i + k) (get_or xs k d)
  get_or-each_from i f [] k d h = absurd (omega arith)
  get_or-each_from i f (x ∷ xs) zero d h = ap (λ n. f n x) (omega arith)
  get_or-each_from i f (x ∷ xs) (suc k) d h = get_or-each_from (suc i) f xs k d (omega arith) ∙ ap (λ n. f n (get_or xs k d)) (omega arith)

  pub get_or-each_at : (f : ℕ → A → A) (xs : List A) (k : ℕ) (d : A) → k < length xs → get_or (each_at f xs) k d ≡ f k (get_or xs k d)
  get_or-each_at f xs k d h = get_or-each_from 0 f xs k d h ∙ ap (λ n. f n (get_or xs k d)) (omega arith)

  -- the same changes give the same
  pub each_from-same : (i : ℕ) (f g : ℕ → A → A) (xs : List A) → ((k : ℕ) (p : A) → f k p ≡ g k p) → each_from i f xs ≡ each_from i g xs
  each_from-same i f g [] h = refl
  each_from-same i f g (x ∷ xs) h = rw (h i x) (ap (λ t. g i x ∷ t) (each_from-same (suc i) f g xs h))

  -- one change after another
  pub each_from-each_from : (i : ℕ) (f g : ℕ → A → A) (xs : List A) → each_from i g (each_from i f xs) ≡ each_from i (λ k p. g k (f k p)) xs
  each_from-each_from i f g [] = refl
  each_from-each_from i f g (x ∷ xs) = ap (λ t. g i (f i x) ∷ t) (each_from-each_from (suc i) f g xs)

  -- no change
  pub each_from-none : (i : ℕ) (f : ℕ → A → A) (xs : List A) → ((k : ℕ) (p : A) → f k p ≡ p) → each_from i f xs ≡ xs
  each_from-none i f [] h = refl
  each_from-none i f (x ∷ xs) h = rw (h i x) (ap (λ t. x ∷ t) (each_from-none (suc i) f xs h))

-- all places are done
pub ended : (f : ℕ → Premultiplied → Premultiplied) (old new : List Premultiplied) (i : ℕ) → length old ≤ i → IsDone f old new i → new ≡ each_at f old
ended f old new i h d =
    same_lists new (each_at f old) (d.len ∙ sym (length-each_from 0 f old))
    (λ k e l. let short : k < length old = omega (arith, d.len) in
    get_or_default new k e clear l ∙ d.done k (omega arith) ∙ sym (get_or-each_at f old k clear short) ∙ get_or_default (each_at f old) k clear e (let n = length-each_from 0 f old in omega (arith, n)))

module _ {A : Type 0} where
  -- the same changes at the places that there are give the same
  pub each_from-same_within : (i : ℕ) (f g : ℕ → A → A) (xs : List A) → ((k : ℕ) (p : A) → k < length xs → f (i + k) p ≡ g (i + k) p) → each_from i f xs ≡ each_from i g xs
  each_from-same_within i f g [] h = refl
  each_from-same_within i f g (x ∷ xs) h =
      let here : f i x ≡ g i x = let e : i + 0 ≡ i = omega arith in subst (λ n. f n x ≡ g n x) e (h 0 x (omega arith)) in
      rw here (ap (λ t. g i x ∷ t) (each_from-same_within (suc i) f g xs (λ k p l. let e : i + suc k ≡ suc i + k = omega arith in subst (λ n. f n p ≡ g n p) e (h (suc k) p (omega arith)))))

  pub each_at-same_within : (f g : ℕ → A → A) (xs : List A) → ((k : ℕ) (p : A) → k < length xs → f k p ≡ g k p) → each_at f xs ≡ each_at g xs
  each_at-same_within f g xs h = each_from-same_within 0 f g xs (λ k p l. let e : k ≡ 0 + k = omega arith in subst (λ n. f n p ≡ g n p) e (h k p l))

  -- all the same from the start
  pub replicate_from : (n : ℕ) (a d : A) (xs : List A) → length xs ≡ n → ((k : ℕ) → k < n → get_or xs k d ≡ a) → xs ≡ replicate n a
  replicate_from n a d xs e h =
      same_lists xs (replicate n a) (e ∙ sym (length-replicate n a))
      (λ k b l. get_or_default xs k b d l ∙ h k (omega (arith, e)) ∙ sym (get_or-replicate n k a b (omega (arith, e))))
