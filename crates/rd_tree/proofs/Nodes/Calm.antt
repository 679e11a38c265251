-- Pages that are known to be calm, as rows change, and what a walk passes with one.
use Rattle.std.proofs.Common.{◌≡◌, ◌≢◌, refl, ap, ◌∙◌, sym, subst, ℕ, zero, suc, ◌+◌, ◌*◌, ◌/◌, ◌<◌, ◌≤◌, Bool, true, false, arith, List, [], ◌∷◌, ◌++◌, length, inl, inr}
use Rattle.std.specs.Prelude.{slice_index_or, slice_set}
use Rattle.std.proofs.lemmas.List.{length-set, length-append}
use Rattle.rd_keys.proofs.Slots.{at_set}
use Rattle.rd_tree.specs.declared.glance.Glance.{Glance}
use Rattle.rd_tree.specs.declared.shared.TheConstants.{PAGE}
use Rattle.rd_tree.specs.Internal.Glances.{pages, seen_at, unseen}
use Rattle.rd_tree.specs.Internal.Calm.{AreCalm, IsCalmPage, IsCalmRow, IsFollowed}

-- The rows of a page are those of another list.
page_as : (gs hs : List Glance) (p : ℕ) → length gs ≤ length hs → ((s : ℕ) → PAGE * p ≤ s → s < PAGE * p + PAGE → seen_at hs s ≡ seen_at gs s)
    → IsCalmPage gs p → IsCalmPage hs p
page_as gs hs p l same c = record {
  full = omega (arith, l, c.full);
  calm = λ s a b. subst IsCalmRow (sym (same s a b)) (c.calm s a b);
  followed = λ s a b.
      let f : IsFollowed gs s = c.followed s a b in
      record {
        key = f.key;
        after = ap (λ y. y.next) (same s a (omega (arith, b))) ∙ f.after;
        slot = f.slot;
        generation = f.generation ∙ sym (ap (λ y. y.generation) (same (s + 1) (omega (arith, a)) b));
      };
}

-- One page is not known to be calm any more, and the others have the rows that they had.
fewer_calm : (gs hs : List Glance) (calm cs : List Bool) (q : ℕ) → AreCalm gs calm → length gs ≤ length hs → length cs ≡ pages (length hs)
    → ((p : ℕ) → p ≢ q → slice_index_or cs p false ≡ slice_index_or calm p false) → slice_index_or cs q false ≡ false
    → ((s : ℕ) → (p : ℕ) → p ≢ q → PAGE * p ≤ s → s < PAGE * p + PAGE → s < length gs → seen_at hs s ≡ seen_at gs s) → AreCalm hs cs
fewer_calm gs hs calm cs q r l n others off same = record {
  all = n;
  right = λ p t.
      let m : p ≢ q = λ e. never (slice_index_or cs p false) t (ap (λ i. slice_index_or cs i false) e ∙ off) in
      let c : IsCalmPage gs p = r.right p (sym (others p m) ∙ t) in
      page_as gs hs p l (λ s a b. same s p m a b (omega (arith, b, c.full))) c;
} where
  never : (b : Bool) → b ≡ true → b ≡ false → ⊥
  never true e f = cc (f)
  never false e f = cc (e)

-- A row is written.
pub calm_stirred : (gs : List Glance) (calm : List Bool) (s : ℕ) (y : Glance) → AreCalm gs calm → s < length gs
    → AreCalm (slice_set gs s y) (slice_set calm (s / PAGE) false)
calm_stirred gs calm s y r l =
    let m : s / PAGE < length calm = omega (arith, l, r.all) in
    fewer_calm gs (slice_set gs s y) calm (slice_set calm (s / PAGE) false) (s / PAGE) r (omega (arith, length-set gs s y))
    (length-set calm (s / PAGE) false ∙ (r.all ∙ ap pages (sym (length-set gs s y))))
    (λ p n. elim (at_set calm (s / PAGE) false false p m) [ inl e ↦ absurd (n e.0) | inr e ↦ e.1 ])
    (elim (at_set calm (s / PAGE) false false (s / PAGE) m) [ inl e ↦ e.1 | inr e ↦ absurd (e.0 refl) ])
    (λ t p n a b h. elim (at_set gs s y unseen t l) [ inl e ↦ absurd (n (omega (arith, a, b, e.0))) | inr e ↦ e.1 ])

-- A page that begins is not known to be calm.
push_off : (cs : List Bool) (p : ℕ) → slice_index_or (cs ++ false ∷ []) p false ≡ slice_index_or cs p false
push_off [] zero = refl
push_off [] (suc p) = refl
push_off (c ∷ cs) zero = refl
push_off (c ∷ cs) (suc p) = push_off cs p

past_off : (cs : List Bool) (p : ℕ) → length cs ≤ p → slice_index_or cs p false ≡ false
past_off [] p l = refl
past_off (c ∷ cs) zero l = absurd (omega (arith, l))
past_off (c ∷ cs) (suc p) l = past_off cs p (omega (arith, l))

earlier : (gs : List Glance) (y : Glance) (s : ℕ) → s < length gs → seen_at (gs ++ y ∷ []) s ≡ seen_at gs s
earlier [] y s l = absurd (omega (arith, l))
earlier (g ∷ gs) y zero l = refl
earlier (g ∷ gs) y (suc s) l = earlier gs y s (omega (arith, l))

-- A row comes after these, on a page that is there already,
pub calm_longer : (gs : List Glance) (calm : List Bool) (y : Glance) → AreCalm gs calm → length gs / PAGE < length calm
    → AreCalm (gs ++ y ∷ []) (slice_set calm (length gs / PAGE) false)
calm_longer gs calm y r m =
    let n : length (gs ++ y ∷ []) ≡ length gs + 1 = length-append gs (y ∷ []) in
    let k : length (slice_set calm (length gs / PAGE) false) ≡ length calm = length-set calm (length gs / PAGE) false in
    fewer_calm gs (gs ++ y ∷ []) calm (slice_set calm (length gs / PAGE) false) (length gs / PAGE) r (omega (arith, n))
    (omega (arith, m, n, k, r.all))
    (λ p d. elim (at_set calm (length gs / PAGE) false false p m) [ inl e ↦ absurd (d e.0) | inr e ↦ e.1 ])
    (elim (at_set calm (length gs / PAGE) false false (length gs / PAGE) m) [ inl e ↦ e.1 | inr e ↦ absurd (e.0 refl) ])
    (λ t p d a b h. earlier gs y t h)

-- or on a new one.
pub calm_begun : (gs : List Glance) (calm : List Bool) (y : Glance) → AreCalm gs calm → length calm ≤ length gs / PAGE
    → AreCalm (gs ++ y ∷ []) (calm ++ false ∷ [])
calm_begun gs calm y r m =
    let n : length (gs ++ y ∷ []) ≡ length gs + 1 = length-append gs (y ∷ []) in
    let k : length (calm ++ false ∷ []) ≡ length calm + 1 = length-append calm (false ∷ []) in
    fewer_calm gs (gs ++ y ∷ []) calm (calm ++ false ∷ []) (length gs / PAGE) r (omega (arith, n))
    (omega (arith, m, n, k, r.all))
    (λ p d. push_off calm p)
    (push_off calm (length gs / PAGE) ∙ past_off calm (length gs / PAGE) m)
    (λ t p d a b h. earlier gs y t h)

-- The row of a touched box is written: its page was not known to be calm.
pub calm_settled : (gs : List Glance) (calm : List Bool) (s : ℕ) (y : Glance) → AreCalm gs calm → s < length gs → (seen_at gs s).touched ≡ true
    → AreCalm (slice_set gs s y) calm
calm_settled gs calm s y r l t = record {
  all = r.all ∙ ap pages (sym (length-set gs s y));
  right = λ p u.
      let c : IsCalmPage gs p = r.right p u in
      page_as gs (slice_set gs s y) p (omega (arith, length-set gs s y)) (λ i a b. elim (at_set gs s y unseen i l) [
        | inl e ↦ absurd (never (seen_at gs s).touched t (ap (λ n. (seen_at gs n).touched) (sym e.0) ∙ (c.calm i a b).untouched))
        | inr e ↦ e.1
      ]) c;
} where
  never : (b : Bool) → b ≡ true → b ≡ false → ⊥
  never true e f = cc (f)
  never false e f = cc (e)
