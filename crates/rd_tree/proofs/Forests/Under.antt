-- What is in a forest once another stands below one of its keys.
use Rattle.std.proofs.Common.{◌≡◌, refl, ◌∙◌, ◌+◌, ◌≤◌, Bool, true, false, ◌||◌, cond, arith, ◌⊎◌, inl, inr}
use Rattle.rd_tree.specs.Forest.{Forest, empty, tree, size, ◌▷◌, has, children, with_children, AreApart, IsApart}
use Rattle.rd_tree.proofs.Linking.Standing.{cases, refute, never, either, from_left, from_right, apart_back, has-join, out_of_children, no_children, join-empty}

pub which : (a b : Bool) → (a || b) ≡ true → (a ≡ true) ⊎ (b ≡ true)
which true b h = inl refl
which false b h = inr h

module _ {K D : Type 0} where
  pub size-join : (f g : Forest K D) → size (f ▷ g) ≡ size f + size g
  size-join empty g = omega arith
  size-join (tree k d below rest) g = omega (arith, size-join rest g)

  pub size-children : (same : K → K → Bool) (p : K) (f : Forest K D) → size (children same p f) ≤ size f
  size-children same p empty = omega arith
  size-children same p (tree k d below rest) =
      elim (cases (same p k)) [
        | inl e ↦ rw e (omega arith)
        | inr e ↦ let b = size-children same p below in let r = size-children same p rest in rw (
          e,
          size-join (children same p below) (children same p
              rest),
        ) (omega (arith, b, r))
      ]

  module _ (same : K → K → Bool) (sound : (a b : K) → same a b ≡ true → a ≡ b) (reflexive : (a : K) → same a a ≡ true) where
    pub no_under : (p : K) (g f : Forest K D) → has same p f ≡ false → with_children same p g f ≡ f
    no_under p g empty h = refl
    no_under p g (tree k d below rest) h =
        let s : (same p k ≡ false) × ((has same p below || has same p rest) ≡ false) = either (same p k) (has same p below || has same p rest) h in
        let t : (has same p below ≡ false) × (has same p rest ≡ false) = either (has same p below) (has same p rest) s.1 in
        rw (s.0, no_under p g below t.0, no_under p g rest t.1) refl

    -- what is neither in the forest nor in the new part
    pub out_of_under : (j p : K) (g f : Forest K D) → has same j f ≡ false → has same j g ≡ false → has same j (with_children same p g f) ≡ false
    out_of_under j p g empty h n = refl
    out_of_under j p g (tree k d below rest) h n =
        let s : (same j k ≡ false) × ((has same j below || has same j rest) ≡ false) = either (same j k) (has same j below || has same j rest) h in
        let t : (has same j below ≡ false) × (has same j rest ≡ false) = either (has same j below) (has same j rest) s.1 in
        elim (same p k) as (λ b. has same j (cond b (tree k d g rest) (tree k d (with_children same p g below) (with_children same p g rest))) ≡ false) [
          | true ↦ rw (s.0, n, t.1) refl
          | false ↦ rw (s.0, out_of_under j p g below t.0 n, out_of_under j p g rest t.1 n) refl
        ]

    -- what is in the new part
    pub in_under_new : (j p : K) (g f : Forest K D) → has same p f ≡ true → has same j g ≡ true → has same j (with_children same p g f) ≡ true
    in_under_new j p g empty m n = absurd (never false m refl)
    in_under_new j p g (tree k d below rest) m n =
        elim (cases (same p k)) [
          | inl e ↦ rw e (from_right (same j k) (has same j g || has same j rest) (from_left (has same j g) (has same j rest) n))
          | inr e ↦ rw e (from_right (same j k) (has same j (with_children same p g below) || has same j (with_children same p g rest))
              (elim (which (has same p below) (has same p rest) (rw e at m)) [
                | inl i ↦ from_left (has same j (with_children same p g below)) (has same j (with_children same p g rest)) (in_under_new j p g below i n)
                | inr i ↦ from_right (has same j (with_children same p g below)) (has same j (with_children same p g rest)) (in_under_new j p g rest i n)
              ]))
        ]

    -- what was there stays, if the new part has all that was below
    pub in_under_old : (j p : K) (g f : Forest K D) → (has same j (children same p f) ≡ true → has same j g ≡ true) → has same j f ≡ true → has same j
        (with_children same p g f) ≡ true
    in_under_old j p g empty n m = m
    in_under_old j p g (tree k d below rest) n m =
        elim (cases (same p k)) [
          | inl e ↦
              let n2 : has same j below ≡ true → has same j g ≡ true = rw e at n in
              rw e (elim (which (same j k) (has same j below || has same j rest) m) [
                | inl i ↦ from_left (same j k) (has same j g || has same j rest) i
                | inr i ↦ from_right (same j k) (has same j g || has same j rest) (elim (which (has same j below) (has same j rest) i) [
                  | inl o ↦ from_left (has same j g) (has same j rest) (n2 o)
                  | inr o ↦ from_right (has same j g) (has same j rest) o
                ])
              ])
          | inr e ↦
              let n2 : has same j (children same p below ▷ children same p rest) ≡ true → has same j g ≡ true = rw e at n in
              let nb : has same j (children same p below) ≡ true → has same j g ≡ true = λ o. n2 (has-join same sound reflexive j (children same p below)
              (children same p rest) ∙ from_left (has same j (children same p below)) (has same j (children same p rest)) o) in
              let nr : has same j (children same p rest) ≡ true → has same j g ≡ true = λ o. n2 (has-join same sound reflexive j (children same p below)
              (children same p rest) ∙ from_right (has same j (children same p below)) (has same j (children same p rest)) o) in
              rw e (elim (which (same j k) (has same j below || has same j rest) m) [
                | inl i ↦ from_left (same j k) (has same j (with_children same p g below) || has same j (with_children same p g rest)) i
                | inr i ↦ from_right (same j k) (has same j (with_children same p g below) || has same j (with_children same p g rest)) (elim (which
                    (has same j below) (has same j rest) i) [
                      | inl o ↦ from_left (has same j (with_children same p g below)) (has same j (with_children same p g rest)) (in_under_old j p g below nb o)
                      | inr o ↦ from_right (has same j (with_children same p g below)) (has same j (with_children same p g rest)) (in_under_old j p g rest nr o)
                    ])
              ])
        ]

    pub size-with_children : (p : K) (g f : Forest K D) → IsApart same f → has same p f ≡ true → size (with_children same p g f) + size (children same p f)
        ≡ size f + size g
    size-with_children p g empty a m = absurd (never false m refl)
    size-with_children p g (tree k d below rest) a m =
        elim (cases (same p k)) [
          | inl e ↦ rw e (omega arith)
          | inr e ↦
              elim (which (has same p below) (has same p rest) (rw e at m)) [
                | inl i ↦
                    let o : has same p rest ≡ false = a.2 p i in
                    rw (e, no_under p g rest o, no_children same sound reflexive p rest o, join-empty (children same p below)) (omega
                    (arith, size-with_children p g below a.3 i))
                | inr i ↦
                    let o : has same p below ≡ false = apart_back same sound reflexive below rest a.2 p i in
                    rw (e, no_under p g below o, no_children same sound reflexive p below o) (omega (arith, size-with_children p g rest a.4 i))
              ]
        ]

    -- a key that is no box of the forest but below p, or no box of the new part
    abbrev pub IsNewBelow : K → Forest K D → Forest K D → Type 0
    IsNewBelow p g f = (j : K) → has same j g ≡ true → has same j f ≡ true → has same j (children same p f) ≡ true

    pub apart_under : (p : K) (g f : Forest K D) → IsApart same f → IsApart same g → has same p f ≡ true → IsNewBelow p g f → IsApart same (with_children
        same p g f)
    apart_under p g empty a b m new = tt
    apart_under p g (tree k d below rest) a b m new =
        elim (cases (same p k)) [
          | inl e ↦
              let new2 : (j : K) → has same j g ≡ true → (same j k || (has same j below || has same j rest)) ≡ true → has same j below ≡ true = rw e at new in
              let kg : has same k g ≡ false = refute (has same k g) (λ i. never (has same k below) (new2 k i (from_left (same k k) (has same k below || has
              same k rest) (reflexive k))) a.0) in
              let gr : AreApart same g rest = λ j i. refute (has same j rest) (λ o. never (has same j rest) o
              (a.2 j (new2 j i (from_right (same j k) (has same j below || has same j rest) (from_right (has same j below) (has same j rest) o))))) in
              rw e (kg, a.1, gr, b, a.4)
          | inr e ↦
              let new2 : (j : K) → has same j g ≡ true → (same j k || (has same j below || has same j rest)) ≡ true → has same j (children same p below ▷
              children same p rest) ≡ true = rw e at new in
              let kg : has same k g ≡ false = refute (has same k g) (λ i. never (has same k (children same p below ▷ children same p rest)) (new2 k i
              (from_left (same k k) (has same k below || has same k rest) (reflexive k)))
              (has-join same sound reflexive k (children same p below) (children same p rest) ∙ rw (
                out_of_children same sound reflexive k p below a.0,
                out_of_children same sound reflexive k p rest a.1,
              ) refl)) in
              elim (which (has same p below) (has same p rest) (rw e at m)) [
                | inl i ↦
                    let o : has same p rest ≡ false = a.2 p i in
                    let new3 : (j : K) → has same j g ≡ true → (same j k || (has same j below || has same j rest)) ≡ true → has same j (children same p
                    below) ≡ true =
                    rw (no_children same sound reflexive p rest o, join-empty (children same p below)) at new2 in
                    let nb : IsNewBelow p g below = λ j u v. new3 j u (from_right (same j k) (has same j below || has same j rest) (from_left (has same j
                    below) (has same j rest) v)) in
                    let gr : AreApart same rest g = λ j u. refute (has same j g) (λ v. never (has same j (children same p below))
                    (new3 j v (from_right (same j k) (has same j below || has same j rest) (from_right (has same j below) (has same j rest) u)))
                    (out_of_children same sound reflexive j p below (apart_back same sound reflexive below rest a.2 j u))) in
                    let ur : AreApart same (with_children same p g below) rest = λ j u. refute (has same j rest) (λ v. never (has same j (with_children
                    same p g below)) u
                    (out_of_under j p g below (apart_back same sound reflexive below rest a.2 j v) (gr j v))) in
                    rw (e, no_under p g rest o) (out_of_under k p g below a.0 kg, a.1, ur, apart_under p g below a.3 b i nb, a.4)
                | inr i ↦
                    let o : has same p below ≡ false = apart_back same sound reflexive below rest a.2 p i in
                    let new3 : (j : K) → has same j g ≡ true → (same j k || (has same j below || has same j rest)) ≡ true → has same j (children same p
                    rest) ≡ true =
                    rw (no_children same sound reflexive p below o) at new2 in
                    let nr : IsNewBelow p g rest = λ j u v. new3 j u (from_right (same j k) (has same j below || has same j rest) (from_right (has same j
                    below) (has same j rest) v)) in
                    let gb : AreApart same below g = λ j u. refute (has same j g) (λ v. never (has same j (children same p rest))
                    (new3 j v (from_right (same j k) (has same j below || has same j rest) (from_left (has same j below) (has same j rest) u)))
                    (out_of_children same sound reflexive j p rest (a.2 j u))) in
                    let bu : AreApart same below (with_children same p g rest) = λ j u. out_of_under j p g rest (a.2 j u) (gb j u) in
                    rw (e, no_under p g below o) (a.0, out_of_under k p g rest a.1 kg, bu, a.3, apart_under p g rest a.4 b i nr)
              ]
        ]

    pub apart_join : (f g : Forest K D) → IsApart same f → IsApart same g → AreApart same f g → IsApart same (f ▷ g)
    apart_join empty g a b h = b
    apart_join (tree k d below rest) g a b h =
        let hb : AreApart same below g = λ j u. h j (from_right (same j k) (has same j below || has same j rest) (from_left (has same j below) (has same j
        rest) u)) in
        let hr : AreApart same rest g = λ j u. h j (from_right (same j k) (has same j below || has same j rest) (from_right (has same j below) (has same j
        rest) u)) in
        let kg : has same k g ≡ false = h k (from_left (same k k) (has same k below || has same k rest) (reflexive k)) in
        let br : AreApart same below (rest ▷ g) = λ j u. has-join same sound reflexive j rest g ∙ rw (a.2 j u, hb j u) refl in
        (a.0, has-join same sound reflexive k rest g ∙ rw (a.1, kg) refl, br, a.3, apart_join rest g a.4 b hr)
