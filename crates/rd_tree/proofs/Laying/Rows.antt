-- What is handed to each box, once boxes change.
use Rattle.std.proofs.Common.{◌≡◌, refl, ap, ◌∙◌, sym, subst, ℕ, ◌+◌, ◌≤◌, Bool, true, false, ◌||◌, cond, List, [], ◌∷◌, inl, inr, arith}
use Rattle.std.specs.Prelude.{◌+ℤ◌, Option, Some, None}
use Rattle.rd_keys.specs.Keys.{same_key}
use Rattle.rd_keys.proofs.Keys.{same_key-sound, same_key-refl}
use Rattle.rd_tree.specs.declared.handed.ScrollSums.{ScrollSums}
use Rattle.rd_tree.specs.Forest.{empty, tree, ◌▷◌, has, depth, height, item_of, children, with_children, insert_before, insert_among, without_branch, map_where, at_box, AllItems, IsApart}
use Rattle.rd_tree.specs.Document.{Document, BoxKey, Item, BoxForest, IsRooted}
use Rattle.rd_tree.specs.Limits.{FitsScroll}
use Rattle.rd_tree.specs.Changes.{with_rect}
use Rattle.rd_tree.specs.Drawn.{Above, above_of, offset_of, is_none, drawn}
use Rattle.rd_tree.specs.Drawing.{laid_below, laid}
use Rattle.rd_tree.specs.Internal.Handing.{handed_of, offset_in, entered, IsWithin}
use Rattle.rd_tree.specs.Internal.Hands.{hand_at, handed_to, passed}
use Rattle.rd_tree.specs.Internal.Laid.{each_by, laid_by, laid_tree, unhanded, AreHanded}
use Rattle.rd_tree.proofs.Linking.Standing.{cases, never, either, from_left, from_right, join-empty, no_children, out_of_children, differs, apart_back, flip}
use Rattle.rd_tree.proofs.Forests.Under.{no_under}
use Rattle.rd_tree.proofs.Forests.EachBranch.{each_none}
use Rattle.rd_tree.proofs.Forests.ByKey.{where-by}
use Rattle.rd_tree.proofs.Commuting.{known}
use Rattle.rd_tree.proofs.Offsets.{entered_within, within_more, offset-of, entered-of}

pub key_flip : (i j : BoxKey) → same_key i j ≡ same_key j i
key_flip i j = flip same_key same_key-sound same_key-refl i j

same_some : {A : Type 0} (a b : A) → Some a ≡ Some b → a ≡ b
same_some a b h = cc (h)

pub in_rest : (j k : BoxKey) (below rest : BoxForest) → same_key j k ≡ false → has same_key j below ≡ false → (same_key j k || (has same_key j below || has same_key j rest)) ≡ true → has same_key j rest ≡ true
in_rest j k below rest e u h = rw (e, u) at h

-- what is handed to the children of a box of this item
abbrev pub inside_of : List ScrollSums → BoxKey → BoxKey → Item → ScrollSums
inside_of rows root p d = entered (same_key p root) d.style d.scroll (hand_at rows p)

module _ (rows : List ScrollSums) (root : BoxKey) where
  -- items that keep their styles and scroll offsets
  pub handed_by : (g : BoxKey → Item → Item) → ((k : BoxKey) (d : Item) → (g k d).style ≡ d.style) → ((k : BoxKey) (d : Item) → (g k d).scroll ≡ d.scroll)
      → (h : ScrollSums) (f : BoxForest) → AreHanded rows root h f → AreHanded rows root h (each_by g f)
  handed_by g keeps stays h empty a = tt
  handed_by g keeps stays h (tree k d below rest) a =
      let e : entered (same_key k root) d.style d.scroll h ≡ entered (same_key k root) (g k d).style (g k d).scroll h = λ i. entered (same_key k root) (sym (keeps k d) i) (sym (stays k d) i) h in (
        a.0,
        subst (λ z. AreHanded rows root z (each_by g below)) e (handed_by g keeps stays (entered (same_key k root) d.style d.scroll h) below a.1),
        handed_by g keeps stays h rest a.2,
      )

  pub handed_where : (p : BoxKey → Bool) (x : Item → Item) → ((d : Item) → (x d).style ≡ d.style) → ((d : Item) → (x d).scroll ≡ d.scroll)
      → (h : ScrollSums) (f : BoxForest) → AreHanded rows root h f → AreHanded rows root h (map_where p x f)
  handed_where p x keeps stays h f a =
      subst (AreHanded rows root h) (sym (where-by p x f))
      (handed_by (λ k d. cond (p k) (x d) d) (λ k d. style_at (p k) d) (λ k d. scroll_at (p k) d) h f a) where
        style_at : (b : Bool) (d : Item) → (cond b (x d) d).style ≡ d.style
        style_at true d = keeps d
        style_at false d = refl

        scroll_at : (b : Bool) (d : Item) → (cond b (x d) d).scroll ≡ d.scroll
        scroll_at true d = stays d
        scroll_at false d = refl

  pub handed_join : (h : ScrollSums) (f g : BoxForest) → AreHanded rows root h f → AreHanded rows root h g → AreHanded rows root h (f ▷ g)
  handed_join h empty g a b = b
  handed_join h (tree k d below rest) g a b = (a.0, a.1, handed_join h rest g a.2 b)

  handed_before : (h : ScrollSums) (j : BoxKey) (g f : BoxForest) → AreHanded rows root h g → AreHanded rows root h f → AreHanded rows root h (insert_before same_key j g f)
  handed_before h j g empty a b = a
  handed_before h j g (tree k d below rest) a b =
      elim (cases (same_key j k)) [
        | inl e ↦ rw e (handed_join h g (tree k d below rest) a b)
        | inr e ↦ rw e (b.0, b.1, handed_before h j g rest a b.2)
      ]

  pub handed_among : (h : ScrollSums) (o : Option BoxKey) (g f : BoxForest) → AreHanded rows root h g → AreHanded rows root h f → AreHanded rows root h (insert_among same_key o g f)
  handed_among h None g f a b = handed_join h f g b a
  handed_among h (Some j) g f a b = handed_before h j g f a b

  pub handed_without : (h : ScrollSums) (k : BoxKey) (f : BoxForest) → AreHanded rows root h f → AreHanded rows root h (without_branch same_key k f)
  handed_without h k empty a = tt
  handed_without h k (tree i d below rest) a =
      elim (cases (same_key k i)) [
        | inl e ↦ rw e a.2
        | inr e ↦ rw e (a.0, handed_without (entered (same_key i root) d.style d.scroll h) k below a.1, handed_without h k rest a.2)
      ]

  pub handed_children : (h : ScrollSums) (p : BoxKey) (d : Item) (f : BoxForest) → IsApart same_key f → item_of same_key p f ≡ Some d → AreHanded rows root h f
      → AreHanded rows root (inside_of rows root p d) (children same_key p f)
  handed_children h p d empty a v r = tt
  handed_children h p d (tree i e low rest) a v r =
      elim (cases (same_key p i)) [
        | inl s ↦
            let n : p ≡ i = same_key-sound p i s in
            let is : e ≡ d = same_some e d (rw s at v) in
            rw s (subst (λ z. AreHanded rows root z low) (fix i e n is r.0) r.1)
        | inr s ↦ elim (cases (has same_key p low)) [
          | inl u ↦
              rw (s, no_children same_key same_key-sound same_key-refl p rest (a.2 p u), join-empty (children same_key p low))
              (handed_children (entered (same_key i root) e.style e.scroll h) p d low a.3 (rw (s, u) at v) r.1)
          | inr u ↦
              rw (s, no_children same_key same_key-sound same_key-refl p low u) (handed_children h p d rest a.4 (rw (s, u) at v) r.2)
        ]
      ] where
        fix : (i : BoxKey) (e : Item) → p ≡ i → e ≡ d → hand_at rows i ≡ h → entered (same_key i root) e.style e.scroll h ≡ inside_of rows root p d
        fix i e n is here =
            (λ x. entered (same_key (sym n x) root) (is x).style (is x).scroll ((sym here ∙ ap (hand_at rows) (sym n)) x))

  -- Other boxes below p.
  pub handed_put : (h : ScrollSums) (p : BoxKey) (g f : BoxForest) → IsApart same_key f → AreHanded rows root h f
      → ((d : Item) → item_of same_key p f ≡ Some d → AreHanded rows root (inside_of rows root p d) g) → AreHanded rows root h (with_children same_key p g f)
  handed_put h p g empty a r q = tt
  handed_put h p g (tree i e low rest) a r q =
      elim (cases (same_key p i)) [
        | inl s ↦
            let n : p ≡ i = same_key-sound p i s in
            let w : AreHanded rows root (inside_of rows root p e) g = q e (rw s refl) in
            rw s (r.0, subst (λ z. AreHanded rows root z g) (λ x. entered (same_key (n x) root) e.style e.scroll ((ap (hand_at rows) n ∙ r.0) x)) w, r.2)
        | inr s ↦ elim (cases (has same_key p low)) [
          | inl u ↦
              rw (s, no_under same_key same_key-sound same_key-refl p g rest (a.2 p u))
              (r.0, handed_put (entered (same_key i root) e.style e.scroll h) p g low a.3 r.1 (λ d v. q d (rw (s, u) v)), r.2)
          | inr u ↦
              rw (s, no_under same_key same_key-sound same_key-refl p g low u)
              (r.0, r.1, handed_put h p g rest a.4 r.2 (λ d v. q d (rw (s, u) v)))
        ]
      ]

-- Another table that has the same for these boxes.
pub handed_rows : (old new : List ScrollSums) (root : BoxKey) (h : ScrollSums) (f : BoxForest) → ((j : BoxKey) → has same_key j f ≡ true → hand_at new j ≡ hand_at old j)
    → AreHanded old root h f → AreHanded new root h f
handed_rows old new root h empty q a = tt
handed_rows old new root h (tree k d low rest) q a = (
  q k (from_left (same_key k k) (has same_key k low || has same_key k rest) (same_key-refl k)) ∙ a.0,
  handed_rows old new root (entered (same_key k root) d.style d.scroll h) low (λ j u. q j (from_right (same_key j k) (has same_key j low || has same_key j rest) (from_left
      (has same_key j low) (has same_key j rest) u))) a.1,
  handed_rows old new root h rest (λ j u. q j (from_right (same_key j k) (has same_key j low || has same_key j rest) (from_right (has same_key j low) (has same_key j rest) u))) a.2,
)

-- Where a box is not, nothing changes.
stays_put : (k : BoxKey) (e : Item → Item) (f : BoxForest) → has same_key k f ≡ false → at_box same_key k e f ≡ f
stays_put k e f o = each_none (λ j. same_key j k) e same_key same_key-refl f (λ j u. differs same_key same_key-sound same_key-refl f j k u o)

-- the boxes below k, where k is below the first box or beside it
below_low : (k i : BoxKey) (d : Item) (low rest : BoxForest) → IsApart same_key (tree i d low rest) → same_key k i ≡ false → has same_key k low ≡ true
    → children same_key k (tree i d low rest) ≡ children same_key k low
below_low k i d low rest a s u = rw (s, no_children same_key same_key-sound same_key-refl k rest (a.2 k u)) (join-empty (children same_key k low))

below_rest : (k i : BoxKey) (d : Item) (low rest : BoxForest) → same_key k i ≡ false → has same_key k low ≡ false
    → children same_key k (tree i d low rest) ≡ children same_key k rest
below_rest k i d low rest s u = rw (s, no_children same_key same_key-sound same_key-refl k low u) refl

-- One box changes, and so does what is handed to the boxes below it.
pub handed_at : (old new : List ScrollSums) (root k : BoxKey) (e : Item → Item) (h : ScrollSums) (f : BoxForest) → IsApart same_key f → AreHanded old root h f
    → ((j : BoxKey) → has same_key j f ≡ true → has same_key j (children same_key k f) ≡ false → hand_at new j ≡ hand_at old j)
    → ((d : Item) → item_of same_key k f ≡ Some d → AreHanded new root (entered (same_key k root) (e d).style (e d).scroll (hand_at old k)) (children same_key k f))
    → AreHanded new root h (at_box same_key k e f)
handed_at old new root k e h empty a r q w = tt
handed_at old new root k e h (tree i d low rest) a r q w =
    let f : BoxForest = tree i d low rest in
    let in_low : (j : BoxKey) → has same_key j low ≡ true → has same_key j f ≡ true = λ j u. from_right (same_key j i) (has same_key j low || has same_key j rest) (from_left
    (has same_key j low) (has same_key j rest) u) in
    let in_later : (j : BoxKey) → has same_key j rest ≡ true → has same_key j f ≡ true = λ j u. from_right (same_key j i) (has same_key j low || has same_key j rest) (from_right
    (has same_key j low) (has same_key j rest) u) in
    let here : has same_key i f ≡ true = from_left (same_key i i) (has same_key i low || has same_key i rest) (same_key-refl i) in
    let out_low : (j : BoxKey) → has same_key j low ≡ false → has same_key j (children same_key k low) ≡ false = λ j o. out_of_children same_key same_key-sound same_key-refl j k low o in
    let out_later : (j : BoxKey) → has same_key j rest ≡ false → has same_key j (children same_key k rest) ≡ false = λ j o. out_of_children same_key same_key-sound same_key-refl j k rest o in
    elim (cases (same_key k i)) [
      | inl s ↦
          let n : k ≡ i = same_key-sound k i s in
          let s2 : same_key i k ≡ true = key_flip i k ∙ s in
          let kids : children same_key k f ≡ low = rw s refl in
          let no_low : at_box same_key k e low ≡ low = stays_put k e low (subst (λ z. has same_key z low ≡ false) (sym n) a.0) in
          let no_later : at_box same_key k e rest ≡ rest = stays_put k e rest (subst (λ z. has same_key z rest ≡ false) (sym n) a.1) in
          let row : hand_at new i ≡ h = q i here (ap (has same_key i) kids ∙ a.0) ∙ r.0 in
          let v : item_of same_key k f ≡ Some d = rw s refl in
          let below : AreHanded new root (entered (same_key i root) (e d).style (e d).scroll h) low =
          subst (λ z. AreHanded new root z low) (λ x. entered (same_key (n x) root) (e d).style (e d).scroll ((ap (hand_at old) n ∙ r.0) x))
          (subst (λ z. AreHanded new root (entered (same_key k root) (e d).style (e d).scroll (hand_at old k)) z) kids (w d v)) in
          let later : AreHanded new root h rest = handed_rows old new root h rest (λ j u. q j (in_later j u) (ap (has same_key j) kids ∙ apart_back same_key same_key-sound same_key-refl low rest a.2 j u)) r.2 in
          rw (s2, no_low, no_later) (row, below, later)
      | inr s ↦
          let s2 : same_key i k ≡ false = key_flip i k ∙ s in
          elim (cases (has same_key k low)) [
            | inl u ↦
                let kids : children same_key k f ≡ children same_key k low = below_low k i d low rest a s u in
                let no_later : at_box same_key k e rest ≡ rest = stays_put k e rest (a.2 k u) in
                let row : hand_at new i ≡ h = q i here (ap (has same_key i) kids ∙ out_low i a.0) ∙ r.0 in
                let below : AreHanded new root (entered (same_key i root) d.style d.scroll h) (at_box same_key k e low) =
                handed_at old new root k e (entered (same_key i root) d.style d.scroll h) low a.3 r.1 (λ j x o. q j (in_low j x) (ap (has same_key j) kids ∙ o))
                (λ d2 v. subst (λ z. AreHanded new root (entered (same_key k root) (e d2).style (e d2).scroll (hand_at old k)) z) kids (w d2 (rw (s, u) v))) in
                let later : AreHanded new root h rest = handed_rows old new root h rest (λ j x. q j (in_later j x) (ap (has same_key j) kids
                ∙ out_low j (apart_back same_key same_key-sound same_key-refl low rest a.2 j x))) r.2 in
                rw (s2, no_later) (row, below, later)
            | inr u ↦
                let kids : children same_key k f ≡ children same_key k rest = below_rest k i d low rest s u in
                let no_low : at_box same_key k e low ≡ low = stays_put k e low u in
                let row : hand_at new i ≡ h = q i here (ap (has same_key i) kids ∙ out_later i a.1) ∙ r.0 in
                let below : AreHanded new root (entered (same_key i root) d.style d.scroll h) low =
                handed_rows old new root (entered (same_key i root) d.style d.scroll h) low (λ j x. q j (in_low j x) (ap (has same_key j) kids ∙ out_later j (a.2 j x))) r.1 in
                let later : AreHanded new root h (at_box same_key k e rest) =
                handed_at old new root k e h rest a.4 r.2 (λ j x o. q j (in_later j x) (ap (has same_key j) kids ∙ o))
                (λ d2 v. subst (λ z. AreHanded new root (entered (same_key k root) (e d2).style (e d2).scroll (hand_at old k)) z) kids (w d2 (rw (s, u) v))) in
                rw (s2, no_low) (row, below, later)
          ]
    ]

-- What a walk hands down from a box that is not the root,
pub handed_down : (rows : List ScrollSums) (root : BoxKey) (h : ScrollSums) (f : BoxForest) → IsApart same_key f → has same_key root f ≡ false
    → ((j : BoxKey) → has same_key j f ≡ true → hand_at rows j ≡ handed_to j h f) → AreHanded rows root h f
handed_down rows root h empty a o q = tt
handed_down rows root h (tree k d low rest) a o q =
    let f : BoxForest = tree k d low rest in
    let s : (same_key root k ≡ false) × ((has same_key root low || has same_key root rest) ≡ false) = either (same_key root k) (has same_key root low || has same_key root rest) o in
    let t : (has same_key root low ≡ false) × (has same_key root rest ≡ false) = either (has same_key root low) (has same_key root rest) s.1 in
    let off : same_key k root ≡ false = key_flip k root ∙ s.0 in
    let row : hand_at rows k ≡ h = q k (from_left (same_key k k) (has same_key k low || has same_key k rest) (same_key-refl k)) ∙ rw (same_key-refl k) refl in
    let below : AreHanded rows root (passed h d) low = handed_down rows root (passed h d) low a.3 t.0 (λ j u.
    let n : same_key j k ≡ false = differs same_key same_key-sound same_key-refl low j k u a.0 in
    q j (from_right (same_key j k) (has same_key j low || has same_key j rest) (from_left (has same_key j low) (has same_key j rest) u)) ∙ rw (n, u) refl) in
    let later : AreHanded rows root h rest = handed_down rows root h rest a.4 t.1 (λ j u.
    let n : same_key j k ≡ false = differs same_key same_key-sound same_key-refl rest j k u a.1 in
    let l : has same_key j low ≡ false = apart_back same_key same_key-sound same_key-refl low rest a.2 j u in
    q j (from_right (same_key j k) (has same_key j low || has same_key j rest) (from_right (has same_key j low) (has same_key j rest) u)) ∙ rw (n, l) refl) in
    (row, subst (λ b. AreHanded rows root (entered b d.style d.scroll h) low) (sym off) below, later)

-- and the other way.
pub handed_is : (rows : List ScrollSums) (root : BoxKey) (h : ScrollSums) (f : BoxForest) → IsApart same_key f → has same_key root f ≡ false → AreHanded rows root h f
    → (j : BoxKey) → has same_key j f ≡ true → hand_at rows j ≡ handed_to j h f
handed_is rows root h empty a o r j m = absurd (never false m refl)
handed_is rows root h (tree k d low rest) a o r j m =
    let s : (same_key root k ≡ false) × ((has same_key root low || has same_key root rest) ≡ false) = either (same_key root k) (has same_key root low || has same_key root rest) o in
    let t : (has same_key root low ≡ false) × (has same_key root rest ≡ false) = either (has same_key root low) (has same_key root rest) s.1 in
    let off : same_key k root ≡ false = key_flip k root ∙ s.0 in
    elim (cases (same_key j k)) [
      | inl e ↦ rw e (ap (hand_at rows) (same_key-sound j k e) ∙ r.0)
      | inr e ↦ elim (cases (has same_key j low)) [
        | inl u ↦ rw (e, u) (handed_is rows root (passed h d) low a.3 t.0 (subst (λ b. AreHanded rows root (entered b d.style d.scroll h) low) off r.1) j u)
        | inr u ↦ rw (e, u) (handed_is rows root h rest a.4 t.1 r.2 j (in_rest j k low rest e u m))
      ]
    ]

-- How far what is handed on may be.
one_more : (n : ℕ) (h : ScrollSums) (b : ℕ) → b ≡ 1 + n → IsWithin (1 + n) h → IsWithin b h
one_more n h b e w = subst (λ z. IsWithin z h) (sym e) w

pub inside_within : (rows : List ScrollSums) (root p : BoxKey) (d : Item) (n : ℕ) (h : ScrollSums) (f : BoxForest) → IsWithin n h → AllItems (λ d. FitsScroll d.scroll) f → AreHanded rows root h f
    → IsApart same_key f → item_of same_key p f ≡ Some d → has same_key p f ≡ true → IsWithin (n + depth same_key p f) (inside_of rows root p d)
inside_within rows root p d n h empty w s r a v m = absurd (never false m refl)
inside_within rows root p d n h (tree i e low rest) w s r a v m =
    elim (cases (same_key p i)) [
      | inl t ↦
          let k : p ≡ i = same_key-sound p i t in
          let is : e ≡ d = same_some e d (rw t at v) in
          let in0 : IsWithin (1 + n) (entered (same_key i root) e.style e.scroll h) = entered_within n (same_key i root) e.style e.scroll h s.0 w in
          let to : entered (same_key i root) e.style e.scroll h ≡ inside_of rows root p d =
          (λ x. entered (same_key (sym k x) root) (is x).style (is x).scroll ((sym r.0 ∙ ap (hand_at rows) (sym k)) x)) in
          rw t (one_more n (inside_of rows root p d) (n + 1) (omega arith) (subst (λ z. IsWithin (1 + n) z) to in0))
      | inr t ↦ elim (cases (has same_key p low)) [
        | inl u ↦
            let w2 : IsWithin (1 + n) (entered (same_key i root) e.style e.scroll h) = entered_within n (same_key i root) e.style e.scroll h s.0 w in
            let low2 : IsWithin ((1 + n) + depth same_key p low) (inside_of rows root p d) = inside_within rows root p d (1 + n) (entered (same_key i root) e.style e.scroll h) low w2 s.1 r.1 a.3 (rw (t, u) at v) u in
            let eq : n + (1 + depth same_key p low) ≡ (1 + n) + depth same_key p low = omega arith in
            rw (t, u) (subst (λ z. IsWithin z (inside_of rows root p d)) (sym eq) low2)
        | inr u ↦ rw (t, u) (inside_within rows root p d n h rest w s.2 r.2 a.4 (rw (t, u) at v) (in_rest p i low rest t u m))
      ]
    ]

pub row_within : (rows : List ScrollSums) (root : BoxKey) (n : ℕ) (h : ScrollSums) (f : BoxForest) → IsWithin n h → n + height f ≤ 256 → AllItems (λ d. FitsScroll d.scroll) f → AreHanded rows root h f
    → (k : BoxKey) → has same_key k f ≡ true → IsWithin 256 (hand_at rows k)
row_within rows root n h empty w l s r k m = absurd (never false m refl)
row_within rows root n h (tree i e low rest) w l s r k m =
    elim (cases (same_key k i)) [
      | inl t ↦
          let q : IsWithin 256 h = within_more n h (omega (arith, l)) w in
          subst (λ z. IsWithin 256 z) (sym r.0 ∙ ap (hand_at rows) (sym (same_key-sound k i t))) q
      | inr t ↦ elim (cases (has same_key k low)) [
        | inl u ↦ row_within rows root (1 + n) (entered (same_key i root) e.style e.scroll h) low (entered_within n (same_key i root) e.style e.scroll h s.0 w) (omega (arith, l)) s.1 r.1 k u
        | inr u ↦ row_within rows root n h rest w (omega (arith, l)) s.2 r.2 k (in_rest k i low rest t u m)
      ]
    ]

-- Laid out by the table is laid out as boxes are drawn.
below-laid : (rows : List ScrollSums) (root : BoxKey) (above : List Above) (f : BoxForest) → is_none above ≡ false → has same_key root f ≡ false → AreHanded rows root (handed_of above) f
    → laid_by rows f ≡ laid_below above f
below-laid rows root above empty n o r = refl
below-laid rows root above (tree k d low rest) n o r =
    let s : (same_key root k ≡ false) × ((has same_key root low || has same_key root rest) ≡ false) = either (same_key root k) (has same_key root low || has same_key root rest) o in
    let t : (has same_key root low ≡ false) × (has same_key root rest ≡ false) = either (has same_key root low) (has same_key root rest) s.1 in
    let off : same_key k root ≡ is_none above = key_flip k root ∙ (s.0 ∙ sym n) in
    let inside : List Above = above_of (is_none above) d ∷ above in
    let to : entered (same_key k root) d.style d.scroll (handed_of above) ≡ handed_of inside = (λ i. entered (off i) d.style d.scroll (handed_of above)) ∙ entered-of (is_none above) d.style d.scroll above in
    let low2 : laid_by rows low ≡ laid_below inside low = below-laid rows root inside low refl t.0 (subst (λ z. AreHanded rows root z low) to r.1) in
    let later : laid_by rows rest ≡ laid_below above rest = below-laid rows root above rest n t.1 r.2 in
    let far : offset_in (hand_at rows k) d.style.position ≡ offset_of d.style.position above = ap (λ h. offset_in h d.style.position) r.0 ∙ offset-of d.style.position above in
    λ i. tree k (with_rect (record d.rect { x = d.rect.x +ℤ (far i).x; y = d.rect.y +ℤ (far i).y }) d) (low2 i) (later i)

pub is-laid : (rows : List ScrollSums) (t : Document) → IsRooted t → IsApart same_key t.boxes → AreHanded rows t.root unhanded t.boxes → laid_tree rows t ≡ laid t
is-laid rows t r a h =
    let fa : IsApart same_key (tree t.root r.0 r.1 empty) = subst (λ f. IsApart same_key f) r.2 a in
    let fh : AreHanded rows t.root unhanded (tree t.root r.0 r.1 empty) = subst (AreHanded rows t.root unhanded) r.2 h in
    let d : Item = r.0 in
    let inside : List Above = above_of true d ∷ [] in
    let to : entered (same_key t.root t.root) d.style d.scroll unhanded ≡ handed_of inside =
    (λ i. entered (same_key-refl t.root i) d.style d.scroll unhanded) ∙ entered-of true d.style d.scroll [] in
    let low : laid_by rows r.1 ≡ laid_below inside r.1 = below-laid rows t.root inside r.1 refl fa.0 (subst (λ z. AreHanded rows t.root z r.1) to fh.1) in
    let far : offset_in (hand_at rows t.root) d.style.position ≡ offset_of d.style.position [] = ap (λ h. offset_in h d.style.position) fh.0 ∙ offset-of d.style.position [] in
    let boxes : laid_by rows (tree t.root d r.1 empty) ≡ laid_below [] (tree t.root d r.1 empty) =
    λ i. tree t.root (with_rect (record d.rect { x = d.rect.x +ℤ (far i).x; y = d.rect.y +ℤ (far i).y }) d) (low i) empty in
    ap (λ f. record t { boxes = f }) (ap (laid_by rows) r.2 ∙ (boxes ∙ ap (laid_below []) (sym r.2)))

-- So it is drawn where the boxes stand.
pub is-drawn : (rows : List ScrollSums) (t : Document) → IsRooted t → IsApart same_key t.boxes → AreHanded rows t.root unhanded t.boxes → drawn (laid_tree rows t) ≡ t
is-drawn rows t r a h = ap drawn (is-laid rows t r a h) ∙ (known t).forth
