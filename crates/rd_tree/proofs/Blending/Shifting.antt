-- What some boxes put into the stacking context round them changes at one place.
use Rattle.std.proofs.Common.{◌≡◌, refl, ap, ◌∙◌, sym, subst, ℕ, ◌+◌, Bool, true, false, ◌||◌, cond, arith, ◌⊎◌, inl, inr}
use Rattle.std.specs.Prelude.{Option, Some, None}
use Rattle.rd_style.specs.declared.styles.Style.{Style}
use Rattle.rd_style.specs.Classes.{real, blended}
use Rattle.rd_keys.specs.Keys.{same_key}
use Rattle.rd_keys.proofs.Keys.{same_key-sound, same_key-refl}
use Rattle.rd_tree.specs.Forest.{empty, tree, has, children, with_children, map_where, IsApart}
use Rattle.rd_tree.specs.Document.{BoxKey, Item, BoxForest}
use Rattle.rd_tree.specs.Internal.Links.{Node, node, Stands}
use Rattle.rd_tree.specs.Internal.Blending.{given, closes, given_in, open_parent, AreCounts, owed, Owes}
use Rattle.rd_tree.proofs.Linking.Standing.{cases, never, flip, differs, differs_back, apart_back, no_children, join-empty}
use Rattle.rd_tree.proofs.Forests.Under.{no_under, which}
use Rattle.rd_tree.proofs.Forests.EachBranch.{each_none}
use Rattle.rd_tree.proofs.Blending.Counts.{Off, in_top, in_low, in_rest, off_parts, owed_off, owes_off, off_owes, given_as, counts_as}

-- The boxes f have become g, and their counts n have become m: they put so many less and so many more into the box o. It is the
-- box above them, or one of them, and its count is not set right yet.
pub record Shift (up o : Option BoxKey) (less more : ℕ) (n m : BoxKey → ℕ) (f g : BoxForest) : Type 0 where
  pub sum : (q : BoxKey) → up ≡ Some q → given_in m g + owed o q less ≡ given_in n f + owed o q more
  pub owes : Owes o less more m g
  pub place : (j : BoxKey) → o ≡ Some j → (up ≡ Some j) ⊎ (has same_key j f ≡ true)

module _ (up o : Option BoxKey) (less more : ℕ) (n m : BoxKey → ℕ) (k : BoxKey) (d : Item) (below rest : BoxForest) (apart : IsApart same_key
    (tree k d below rest)) (off : Off up (tree k d below rest)) (here : m k ≡ n k) where
  -- one of these boxes is not the one above them
  in_off : (j q : BoxKey) → up ≡ Some q → has same_key j (tree k d below rest) ≡ true → same_key j q ≡ false
  in_off j q e u = differs same_key same_key-sound same_key-refl (tree k d below rest) j q u (off q e)

  -- What is below a box changes.
  pub shift_low : (low : BoxForest) → n k ≡ given_in n below → given_in m rest ≡ given_in n rest → AreCounts m rest → Shift (Some k) o less more n m below low
      → Shift up o less more n m (tree k d below rest) (tree k d low rest)
  shift_low low row later counts s = record {
    sum = λ q e.
        let l : owed o q less ≡ 0 = owed_off o q less (λ j i. in_off j q e (within j i)) in
        let h : owed o q more ≡ 0 = owed_off o q more (λ j i. in_off j q e (within j i)) in
        let t : given d.style (m k) ≡ given d.style (n k) = ap (given d.style) here in
        omega (arith, l, h, t, later);
    owes = (
      let t = s.sum k refl in omega (arith, t, here, row),
      s.owes,
      owes_off m o less more rest later_off counts,
    );
    place = λ j i. inr (within j i);
  } where
    within : (j : BoxKey) → o ≡ Some j → has same_key j (tree k d below rest) ≡ true
    within j i = elim (s.place j i) [
      | inl e ↦ let x : k ≡ j = cc in subst (λ z. has same_key z (tree k d below rest) ≡ true) x (in_top k d below rest)
      | inr u ↦ in_low j k d below rest u
    ]

    later_off : Off o rest
    later_off j i = elim (s.place j i) [ inl e ↦ (let x : k ≡ j = cc in subst (λ z. has same_key z rest ≡ false) x apart.1) | inr u ↦ apart.2 j u ]

  -- The later siblings of a box change.
  pub shift_rest : (next : BoxForest) → m k ≡ given_in m below → AreCounts m below → Shift up o less more n m rest next → Shift up o less more n m
      (tree k d below rest) (tree k d below next)
  shift_rest next row counts s = record {
    sum = λ q e.
        let t = s.sum q e in
        let g : given d.style (m k) ≡ given d.style (n k) = ap (given d.style) here in
        omega (arith, t, g);
    owes = (
      let l : owed o k less ≡ 0 = owed_off o k less other in
          let h : owed o k more ≡ 0 = owed_off o k more other in
          omega (arith, l, h, row),
      owes_off m o less more below low_off counts,
      s.owes,
    );
    place = λ j i. elim (s.place j i) [ inl e ↦ inl e | inr u ↦ inr (in_rest j k d below rest u) ];
  } where
    other : (j : BoxKey) → o ≡ Some j → same_key j k ≡ false
    other j i = elim (s.place j i) [
      | inl e ↦ (off_parts j k d below rest (off j e)).0
      | inr u ↦ differs same_key same_key-sound same_key-refl rest j k u apart.1
    ]

    low_off : Off o below
    low_off j i = elim (s.place j i) [
      | inl e ↦ (off_parts j k d below rest (off j e)).1
      | inr u ↦ apart_back same_key same_key-sound same_key-refl below rest apart.2 j u
    ]

low_off_up : (up : Option BoxKey) (k : BoxKey) (d : Item) (below rest : BoxForest) → IsApart same_key (tree k d below rest) → Off (Some k) below
low_off_up up k d below rest a j e = let x : k ≡ j = cc in subst (λ z. has same_key z below ≡ false) x a.0

rest_off_up : (up : Option BoxKey) (k : BoxKey) (d : Item) (below rest : BoxForest) → Off up (tree k d below rest) → Off up rest
rest_off_up up k d below rest off j e = (off_parts j k d below rest (off j e)).2

-- ---- other children of a box

module _ (p : BoxKey) (less more : ℕ) (n : BoxKey → ℕ) (h : BoxForest) (off_h : has same_key p h ≡ false) (right : AreCounts n h) where
  pub shift_under : (up : Option BoxKey) (f : BoxForest) → IsApart same_key f → Off up f → has same_key p f ≡ true → given_in n h + less ≡ given_in n
      (children same_key p f) + more → AreCounts n f → Shift up (Some p) less more n n f (with_children same_key p h f)
  shift_under up empty a off there e c = absurd (never false there refl)
  shift_under up (tree k d below rest) a off there e c =
      elim (cases (same_key p k)) [
        | inl s ↦
            let is : p ≡ k = same_key-sound p k s in
            let z : Shift (Some k) (Some p) less more n n below h = record {
              sum = λ q i.
                  let x : p ≡ q = cc in
                  let w : same_key p q ≡ true = subst (λ y. same_key p y ≡ true) x (same_key-refl p) in
                  rw w (rw s at e);
              owes = owes_off n (Some p) less more h (λ j i. let x : p ≡ j = cc in subst (λ y. has same_key y h ≡ false) x off_h) right;
              place = λ j i. inl (let x : k ≡ j = cc in ap Some x);
            } in
            rw s (shift_low up (Some p) less more n n k d below rest a off refl h c.0 refl c.2 z)
        | inr s ↦ elim (which (has same_key p below) (has same_key p rest) (rw s at there)) [
          | inl u ↦
              let o : has same_key p rest ≡ false = a.2 p u in
              let x : given_in n h + less ≡ given_in n (children same_key p below) + more = rw (
                s,
                no_children same_key same_key-sound same_key-refl p rest
                    o,
                join-empty (children same_key p below),
              ) at e in
              rw (s, no_under same_key same_key-sound same_key-refl p h rest o)
              (shift_low up (Some p) less more n n k d below rest a off refl (with_children same_key p h below) c.0 refl c.2
              (shift_under (Some k) below a.3 (low_off_up up k d below rest a) u x c.1))
          | inr u ↦
              let o : has same_key p below ≡ false = apart_back same_key same_key-sound same_key-refl below rest a.2 p u in
              let x : given_in n h + less ≡ given_in n (children same_key p rest) + more = rw (
                s,
                no_children same_key same_key-sound same_key-refl p below
                    o,
              ) at e in
              rw (s, no_under same_key same_key-sound same_key-refl p h below o)
              (shift_rest up (Some p) less more n n k d below rest a off refl (with_children same_key p h rest) c.0 c.1
              (shift_under up rest a.4 (rest_off_up up k d below rest off) u x c.2))
        ]
      ]

-- ---- another style of a box

module _ (at : BoxKey → Option (Node BoxKey Item)) (c : BoxKey) (x : Node BoxKey Item) (found : at c ≡ Some x) (change : Item → Item) (n : BoxKey → ℕ) where
  not_here : (f : BoxForest) → has same_key c f ≡ false → map_where (λ j. same_key j c) change f ≡ f
  not_here f o = each_none (λ j. same_key j c) change same_key same_key-refl f (λ j u. differs same_key same_key-sound same_key-refl f j c u o)

  pub shift_style : (up prev : Option BoxKey) (f : BoxForest) (first last after : Option BoxKey) → IsApart same_key f → Stands at up prev f first last after
      → Off up f → has same_key c f ≡ true → AreCounts n f → Shift up x.up (given x.item.style (n c)) (given (change x.item).style (n c)) n n f (map_where
      (λ j. same_key j c) change f)
  shift_style up prev empty first last after a s off m r = absurd (never false m refl)
  shift_style up prev (tree k d below rest) first last after a s off m r =
      elim (cases (same_key k c)) [
        | inl e ↦
            let is : k ≡ c = same_key-sound k c e in
            let y : x ≡ node d up prev s.0 s.1 s.2 = cc (found, s.4, ap at is) in
            let low : map_where (λ j. same_key j c) change below ≡ below = not_here below (subst (λ z. has same_key z below ≡ false) is a.0) in
            let later : map_where (λ j. same_key j c) change rest ≡ rest = not_here rest (subst (λ z. has same_key z rest ≡ false) is a.1) in
            let z : Shift up up (given d.style (n c)) (given (change d).style (n c)) n n (tree k d below rest) (tree k (change d) below rest) = subst (λ i.
            Shift up up (given d.style (n i)) (given (change d).style (n i)) n n (tree k d below rest) (tree k (change d) below rest)) is
            (here_style up k d below rest off r) in
            let w : Shift up x.up (given x.item.style (n c)) (given (change x.item).style (n c)) n n (tree k d below rest) (tree k (change d) below rest) =
            subst (λ v. Shift up v.up (given v.item.style (n c)) (given (change v.item).style (n c)) n n (tree k d below rest) (tree k (change d) below
            rest)) (sym y) z in
            rw (e, low, later) w
        | inr e ↦
            let other : same_key c k ≡ false = flip same_key same_key-sound same_key-refl c k ∙ e in
            elim (which (has same_key c below) (has same_key c rest) (rw other at m)) [
              | inl u ↦
                  rw (e, not_here rest (a.2 c u))
                  (shift_low up x.up (given x.item.style (n c)) (given (change x.item).style (n c)) n n k d below rest a off refl (map_where (λ j. same_key
                  j c) change below) r.0 refl r.2
                  (shift_style (Some k) None below s.0 s.1 None a.3 s.5 (low_off_up up k d below rest a) u r.1))
              | inr u ↦
                  rw (e, not_here below (apart_back same_key same_key-sound same_key-refl below rest a.2 c u))
                  (shift_rest up x.up (given x.item.style (n c)) (given (change x.item).style (n c)) n n k d below rest a off refl (map_where (λ j. same_key
                  j c) change rest) r.0 r.1
                  (shift_style up (Some k) rest s.2 last after a.4 s.6 (rest_off_up up k d below rest off) u r.2))
            ]
      ] where
        here_style : (up : Option BoxKey) (k : BoxKey) (d : Item) (below rest : BoxForest) → Off up (tree k d below rest) → AreCounts n (tree k d below
            rest) → Shift up up (given d.style (n k)) (given (change d).style (n k)) n n (tree k d below rest) (tree k (change d) below rest)
        here_style up k d below rest off r = record {
          sum = λ q i. rw (i, same_key-refl q) (omega arith);
          owes = owes_off n up (given d.style (n k)) (given (change d).style (n k)) (tree k (change d) below rest) off r;
          place = λ j i. inl i;
        }

-- ---- another count of a box

given_closed : (s : Style) (x y : ℕ) → closes s ≡ true → given s x ≡ given s y
given_closed s x y h = at (blended s) (real s false) h where
  at : (b c : Bool) → (b || c) ≡ true → cond b 1 (cond c 0 x) ≡ cond b 1 (cond c 0 y)
  at true c h = refl
  at false true h = refl
  at false false h = absurd (never false h refl)

given_open : (s : Style) (x : ℕ) → closes s ≡ false → given s x ≡ x
given_open s x h = at (blended s) (real s false) h where
  at : (b c : Bool) → (b || c) ≡ false → cond b 1 (cond c 0 x) ≡ x
  at true c h = absurd (never true refl h)
  at false true h = absurd (never true refl h)
  at false false h = refl

module _ (at : BoxKey → Option (Node BoxKey Item)) (c : BoxKey) (x : Node BoxKey Item) (found : at c ≡ Some x) (less more : ℕ) (n m : BoxKey → ℕ) (v : ℕ)
    (moved : v + less ≡ n c + more) where
  abbrev Rows : BoxForest → Type 0
  Rows f = (j : BoxKey) → has same_key j f ≡ true → m j ≡ cond (same_key c j) v (n j)

  same_rows : (f : BoxForest) → has same_key c f ≡ false → Rows f → (j : BoxKey) → has same_key j f ≡ true → m j ≡ n j
  same_rows f o rows j u = rows j u ∙ ap (λ b. cond b v (n j)) (differs_back same_key same_key-sound same_key-refl f c j o u)

  still : (f : BoxForest) → has same_key c f ≡ false → Owes (Some c) less more n f → AreCounts n f
  still f o w = off_owes n (Some c) less more f (λ j i. let z : c ≡ j = cc in subst (λ y. has same_key y f ≡ false) z o) w

  -- The box whose count was not right passes on what it owed to the box above it, where it is open.
  pub shift_count : (up prev : Option BoxKey) (f : BoxForest) (first last after : Option BoxKey) → IsApart same_key f → Stands at up prev f first last after
      → Off up f → has same_key c f ≡ true → Rows f → Owes (Some c) less more n f → Shift up (open_parent (Some x)) less more n m f f
  shift_count up prev empty first last after a s off there rows w = absurd (never false there refl)
  shift_count up prev (tree k d below rest) first last after a s off there rows w =
      elim (cases (same_key c k)) [
        | inl e ↦
            let is : c ≡ k = same_key-sound c k e in
            let y : x ≡ node d up prev s.0 s.1 s.2 = cc (found, s.4, ap at is) in
            let o : has same_key c below ≡ false = subst (λ z. has same_key z below ≡ false) (sym is) a.0 in
            let q : has same_key c rest ≡ false = subst (λ z. has same_key z rest ≡ false) (sym is) a.1 in
            let rb = same_rows below o (λ j u. rows j (in_low j k d below rest u)) in
            let rr = same_rows rest q (λ j u. rows j (in_rest j k d below rest u)) in
            let new : m k ≡ v = rows k (in_top k d below rest) ∙ ap (λ b. cond b v (n k)) e in
            let owing : n k + more ≡ given_in n below + less = rw e at w.0 in
            let moved_here : v + less ≡ n k + more = subst (λ z. v + less ≡ n z + more) is moved in
            let low : given_in m below ≡ given_in n below = given_as n m below rb in
            let row : m k ≡ given_in m below = omega (arith, new, owing, moved_here, low) in
            let later : given_in m rest ≡ given_in n rest = given_as n m rest rr in
            let counts : AreCounts m (tree k d below rest) = (row, counts_as n m below rb (still below o w.1), counts_as n m rest rr (still rest q w.2)) in
            subst (λ z. Shift up (open_parent (Some z)) less more n m (tree k d below rest) (tree k d below rest)) (sym y)
            (elim (cases (closes d.style)) [
              | inl h ↦ rw h (record {
                sum = λ z i. let g : given d.style (m k) ≡ given d.style (n k) = given_closed d.style (m k) (n k) h in omega (arith, g, later);
                owes = owes_off m None less more (tree k d below rest) (λ j i. cc) counts;
                place = λ j i. cc;
              })
              | inr h ↦ rw h (record {
                sum = λ z i.
                    let g : given d.style (m k) ≡ m k = given_open d.style (m k) h in
                    let g2 : given d.style (n k) ≡ n k = given_open d.style (n k) h in
                    rw (i, same_key-refl z) (omega (arith, g, g2, later, new, moved_here));
                owes = owes_off m up less more (tree k d below rest) off counts;
                place = λ j i. inl i;
              })
            ])
        | inr e ↦
            let here : m k ≡ n k = rows k (in_top k d below rest) ∙ ap (λ b. cond b v (n k)) e in
            let owing : n k + 0 ≡ given_in n below + 0 = rw e at w.0 in
            let row : n k ≡ given_in n below = omega (arith, owing) in
            elim (which (has same_key c below) (has same_key c rest) (rw e at there)) [
              | inl u ↦
                  let q : has same_key c rest ≡ false = a.2 c u in
                  let rr = same_rows rest q (λ j i. rows j (in_rest j k d below rest i)) in
                  shift_low up (open_parent (Some x)) less more n m k d below rest a off here below row (given_as n m rest rr) (counts_as n m rest rr
                  (still rest q w.2))
                  (shift_count (Some k) None below s.0 s.1 None a.3 s.5 (low_off_up up k d below rest a) u (λ j i. rows j (in_low j k d below rest i)) w.1)
              | inr u ↦
                  let q : has same_key c below ≡ false = apart_back same_key same_key-sound same_key-refl below rest a.2 c u in
                  let rb = same_rows below q (λ j i. rows j (in_low j k d below rest i)) in
                  shift_rest up (open_parent (Some x)) less more n m k d below rest a off here rest (here ∙ (row ∙ sym (given_as n m below rb)))
                  (counts_as n m below rb (still below q w.1))
                  (shift_count up (Some k) rest s.2 last after a.4 s.6 (rest_off_up up k d below rest off) u (λ j i. rows j (in_rest j k d below rest i))
                  w.2)
            ]
      ]
