-- New lists of late nodes, in one pass.
use Rattle.std.proofs.Common.{◌≡◌, refl, ap, ◌∙◌, sym, subst, ℕ, zero, suc, ◌+◌, ◌<◌, ◌≤◌, Bool, true, false, cond, List, [], ◌∷◌, ◌++◌, length, take, get_or, arith, inl, inr, ◌⊎◌}
use Rattle.std.specs.Prelude.{Contains, ◌↔◌}
use Rattle.std.proofs.lemmas.Bool.{cases_lt}
use Rattle.std.proofs.lemmas.List.{take_more, append-nil}
use Rattle.rd_keys.specs.declared.entry.EntryKey.{EntryKey}
use Rattle.rd_graph.specs.Orders.{Before}
use Rattle.rd_graph.specs.Graphs.{Graph, nodes, Precedes, Hop, here, Stitch, IsInOrder}
use Rattle.rd_graph.specs.Names.{same_entry}
use Rattle.rd_graph.specs.Internal.Passes.{IsSorted, noted, distinct, resolved, all_pushed}
use Rattle.rd_graph.specs.Patches.{AreWithin}
use Rattle.rd_graph.specs.Internal.Relisting.{list_at, IsAt, some_gone, is_late, AreNoted, Relists}
use Rattle.rd_graph.proofs.Lists.Listing.{Has, Once, cases, never, has_from, contains_from, has_either, before_to}
use Rattle.rd_graph.proofs.Reaching.Calls.{once_of}
use Rattle.rd_graph.proofs.Lists.Entries.{same_entry-sound, same_entry-refl, resolved-same, not_yet}
use Rattle.rd_graph.proofs.Reaching.OnePass.{Right, made, noted_more, right_more, one_list, last_step}
use Rattle.rd_graph.proofs.Reaching.Dropping.{sorted_from}
use Rattle.rd_graph.proofs.Patches.ListsAt.{get_same, at_has, list_at-here, list_at-there}
use Rattle.rd_graph.proofs.Patches.Marks.{none_goes, one_goes}

module _ {E : Type 0} where
  -- what stands before a place
  before_take : (xs : List E) (k : ℕ) (p a : E) → Once xs → k < length xs → get_or xs k a ≡ a → Before xs p a → Has (take k xs) p
  before_take [] k p a o l e h = absurd h
  before_take (x ∷ xs) zero p a o l e h = absurd (o.0 (subst (λ (z : E). Has xs z) (sym e) (elim h [ inl m ↦ has_from xs a m.1 | inr m ↦ before_to xs p a m ])))
  before_take (x ∷ xs) (suc k) p a o l e (inl m) = inl m.0
  before_take (x ∷ xs) (suc k) p a o l e (inr m) = inr (before_take xs k p a o.1 (omega arith) e m)

  pub take_less : (xs : List E) (i j : ℕ) (p : E) → i ≤ j → Has (take i xs) p → Has (take j xs) p
  take_less xs zero j p l h = absurd h
  take_less [] (suc i) j p l h = absurd h
  take_less (x ∷ xs) (suc i) zero p l h = absurd (omega arith)
  take_less (x ∷ xs) (suc i) (suc j) p l (inl e) = inl e
  take_less (x ∷ xs) (suc i) (suc j) p l (inr m) = inr (take_less xs i j p (omega arith) m)

  pub take_either : (xs : List E) (i : ℕ) (d p : E) → i < length xs → Has (take (i + 1) xs) p → Has (take i xs) p ⊎ (get_or xs i d ≡ p)
  take_either xs i d p l h = elim (has_either (take i xs) (get_or xs i d ∷ []) p (subst (λ (z : List E). Has z p) (take_more xs i d l) h)) [
    | inl m ↦ inl m
    | inr m ↦ elim m [ inl e ↦ inr e | inr n ↦ absurd n ]
  ]

  pub nodes-count : (g : Graph E) → length (nodes g) ≡ length g
  nodes-count [] = refl
  nodes-count (x ∷ g) = ap suc (nodes-count g)

  -- the name at a place
  pub name_at : (g : Graph E) (k : ℕ) (x : E × List E) → IsAt g k x → (k < length (nodes g)) × ((d : E) → get_or (nodes g) k d ≡ x.0)
  name_at [] k x h = absurd (let l = h.0 in omega (arith, l))
  name_at (y ∷ g) zero x h = (omega arith, λ d. ap (λ q. q.0) h.1)
  name_at (y ∷ g) (suc k) x h = let r = name_at g k x ((let l = h.0 in omega (arith, l)), h.1) in ((let l = r.0 in omega (arith, l)), r.1)

  pub one_node : (g : Graph E) (k : ℕ) (x y : E × List E) → IsAt g k x → IsAt g k y → x ≡ y
  one_node g k x y h i = sym h.1 ∙ get_same g k x y h.0 ∙ i.1

module _ (gone : EntryKey → Bool) where
  pub late_parts : (x : EntryKey × List EntryKey) → is_late gone x ≡ true → (gone x.0 ≡ false) × (some_gone gone x.1 ≡ true)
  late_parts x h = elim (cases (gone x.0)) [
    | inl t ↦ let u : false ≡ true = rw t at h in absurd (cc)
    | inr f ↦ let u : some_gone gone x.1 ≡ true = rw f at h in (f, u)
  ]

module _ (gone : EntryKey → Bool) (g : Graph EntryKey) where
  -- The pass, so far.
  pub record SoFar (notes : EntryKey → List EntryKey) (lists : List (ℕ × List EntryKey)) (i : ℕ) : Type 0 where
    pub through : Graph EntryKey
    pub notes_are : (k : EntryKey) → notes k ≡ noted same_entry gone through k
    pub right : Right same_entry gone same_entry-sound same_entry-refl (Precedes g) through (take i (nodes g))
    pub within : AreWithin lists g
    pub kept : (k : ℕ) (x : EntryKey × List EntryKey) → IsAt g k x → (is_late gone x ≡ false) ⊎ (i ≤ k) → list_at lists k x.1 ≡ x.1
    pub new : (k : ℕ) (x : EntryKey × List EntryKey) → IsAt g k x → is_late gone x ≡ true → k < i → (a : EntryKey) → Has (list_at lists k x.1) a ↔ Stitch (Precedes g) gone a x.0

module _ (gone : EntryKey → Bool) (g : Graph EntryKey) (sound : IsInOrder g) where
  names_once : Once (nodes g)
  names_once = once_of (nodes g) sound.once

  precedes : (ps : List EntryKey) (x p : EntryKey) → Contains g (x, ps) → Precedes g p x ↔ Has ps p
  precedes ps x p c =
      let sorted : IsSorted same_entry gone [] g = sorted_from same_entry gone g [] g [] names_once sound.forward refl (λ a. ((λ h. h), (λ h. h))) in (
        (λ s. subst (λ (z : List EntryKey). Has z p) (one_list same_entry gone [] g (x, s.0) (x, ps) sorted (has_from g (x, s.0) s.1) (has_from g (x, ps) c) refl) (has_from s.0 p s.2)),
        (λ m. (ps, c, contains_from ps p m)),
      )

  -- the predecessors of a node stand before it
  before_at : (k : ℕ) (x : EntryKey × List EntryKey) → IsAt g k x → (p : EntryKey) → Has x.1 p → Has (take k (nodes g)) p
  before_at k x h p m =
      let n = name_at g k x h in
      before_take (nodes g) k p x.0 names_once n.0 (n.1 x.0) (sound.forward p x.0 (x.1, (k, h.0, h.1), contains_from x.1 p m))

  -- a node that stays with all its predecessors
  pub unchanged : (k : ℕ) (x : EntryKey × List EntryKey) → IsAt g k x → gone x.0 ≡ false → some_gone gone x.1 ≡ false → (a : EntryKey) → Has x.1 a ↔ Stitch (Precedes g) gone a x.0
  unchanged k x h f none a =
      let c : Contains g (x.0, x.1) = (k, h.0, h.1) in (
        (λ m. record { hop = here ((precedes x.1 x.0 a c).1 m); first = none_goes gone x.1 none a m; second = f }),
        (λ s. elim (last_step same_entry gone same_entry-sound same_entry-refl (Precedes g) a x.0 s.hop) [
          | inl t ↦ (precedes x.1 x.0 a c).0 t
          | inr t ↦ absurd (never (gone t.0) t.2 (none_goes gone x.1 none t.0 ((precedes x.1 x.0 t.0 c).0 t.3)))
        ]),
      )

  -- before the first place nothing goes
  pub so_first : (notes : EntryKey → List EntryKey) (first : ℕ) → ((k : EntryKey) → Contains (take first (nodes g)) k → gone k ≡ false) → ((k : EntryKey) → notes k ≡ []) → SoFar gone g notes [] first
  so_first notes first quiet empty = record {
    through = [];
    notes_are = empty;
    right = λ p h t a. absurd (never (gone p) t (quiet p (contains_from (take first (nodes g)) p h)));
    within = λ l c. absurd (has_from [] l c);
    kept = λ k x h o. refl;
    new = λ k x h t l a.
        let r = one_goes gone x.1 (late_parts gone x t).1 in
        absurd (never (gone r.0) r.2 (quiet r.0 (contains_from (take first (nodes g)) r.0 (take_less (nodes g) k first r.0 (omega arith) (before_at k x h r.0 r.1)))));
  }

  module _ (i : ℕ) (x : EntryKey × List EntryKey) (at_x : IsAt g i x) (notes then : EntryKey → List EntryKey) (found : List EntryKey) (lists next : List (ℕ × List EntryKey)) (so : SoFar gone g notes lists i)
      (is : found ≡ all_pushed same_entry [] (resolved same_entry gone notes x.1))
      (noting : (k : EntryKey) → then k ≡ cond (gone x.0) (cond (same_entry x.0 k) found (notes k)) (notes k))
      (listing : next ≡ lists ++ cond (is_late gone x) ((i, found) ∷ []) []) where
    abbrev own : List EntryKey
    own = distinct same_entry gone so.through x.1

    own_is : found ≡ own
    own_is = is ∙ ap (all_pushed same_entry []) (resolved-same same_entry gone notes (noted same_entry gone so.through) so.notes_are x.1)

    own_has : (a : EntryKey) → Has own a ↔ ((gone a ≡ false) × Hop (Precedes g) gone a x.0)
    own_has = made same_entry gone same_entry-sound same_entry-refl (Precedes g) g precedes so.through (take i (nodes g)) so.right x (at_has g i x at_x)
        (λ p c. contains_from (take i (nodes g)) p (before_at i x at_x p (has_from x.1 p c)))

    in_next : (p : EntryKey) → Has (take (i + 1) (nodes g)) p → Has (x.0 ∷ take i (nodes g)) p
    in_next p h =
        let n = name_at g i x at_x in
        elim (take_either (nodes g) i x.0 p n.0 h) [ inl m ↦ inr m | inr e ↦ inl (sym (n.1 x.0) ∙ e) ]

    abbrev Noted : Type 0
    Noted = (through : Graph EntryKey) × ((k : EntryKey) → then k ≡ noted same_entry gone through k) × Right same_entry gone same_entry-sound same_entry-refl (Precedes g) through (take (i + 1) (nodes g))

    noted_next : Noted
    noted_next = elim (cases (gone x.0)) [
      | inl t ↦
          let new : Has (take i (nodes g)) x.0 → ⊥ = (let n = name_at g i x at_x in λ m. not_yet (nodes g) i x.0 names_once n.0 (subst (λ (z : EntryKey). Has (take i (nodes g)) z) (sym (n.1 x.0)) m)) in
          let r = noted_more same_entry gone same_entry-sound same_entry-refl (Precedes g) so.through (take i (nodes g)) so.right x.0 own new own_has in
          let m : (k : EntryKey) → then k ≡ cond (same_entry x.0 k) found (notes k) = λ k. (let u = noting k in rw t at u) in
          ((x.0, own) ∷ so.through, (λ k. m k ∙ rw (own_is, so.notes_are k) refl), λ p h. r p (in_next p h))
      | inr f ↦
          let r = right_more same_entry gone same_entry-sound same_entry-refl (Precedes g) so.through (take i (nodes g)) x.0 f so.right in
          let m : (k : EntryKey) → then k ≡ notes k = λ k. (let u = noting k in rw f at u) in
          (so.through, (λ k. m k ∙ so.notes_are k), λ p h. r p (in_next p h))
    ]

    -- the new list of a late node
    late_has : gone x.0 ≡ false → (a : EntryKey) → Has found a ↔ Stitch (Precedes g) gone a x.0
    late_has f a = (
      (λ h. let r = (own_has a).0 (subst (λ (z : List EntryKey). Has z a) own_is h) in record { hop = r.1; first = r.0; second = f }),
      (λ s. subst (λ (z : List EntryKey). Has z a) (sym own_is) ((own_has a).1 (s.first, s.hop))),
    )

    -- all but a late node at this place are as before
    next_there : (k : ℕ) (y : EntryKey × List EntryKey) → IsAt g k y → (is_late gone y ≡ false) ⊎ (i ≡ k → ⊥) → list_at next k y.1 ≡ list_at lists k y.1
    next_there k y h o = elim (cases (is_late gone x)) [
      | inl t ↦
          let e : next ≡ lists ++ (i, found) ∷ [] = rw t at listing in
          let d : i ≡ k → ⊥ = elim o [
            | inl f ↦ λ u. never (is_late gone y) (ap (is_late gone) (one_node g k y x h (subst (λ j. IsAt g j x) u at_x)) ∙ t) f
            | inr v ↦ v
          ] in
          rw e (list_at-there lists i k (found) y.1 d)
      | inr f ↦ let e : next ≡ lists ++ [] = rw f at listing in ap (λ ls. list_at ls k y.1) (e ∙ append-nil lists)
    ]

    next_here : is_late gone x ≡ true → list_at next i x.1 ≡ found
    next_here t =
        let e : next ≡ lists ++ (i, found) ∷ [] = rw t at listing in
        rw e (list_at-here lists i (found) x.1)

    next_within : AreWithin next g
    next_within l c = elim (has_either lists (cond (is_late gone x) ((i, found) ∷ []) []) l (has_from (lists ++ cond (is_late gone x) ((i, found) ∷ []) []) l (subst (λ ls. Contains ls l) listing c))) [
      | inl m ↦ so.within l (contains_from lists l m)
      | inr m ↦ elim (cases (is_late gone x)) [
        | inl t ↦
            let u : Has ((i, found) ∷ []) l = rw t at m in
            elim u [ inl e ↦ subst (λ j. j < length g) (ap (λ q. q.0) e) at_x.0 | inr n ↦ absurd n ]
        | inr f ↦ let u : Has {A = ℕ × List EntryKey} [] l = rw f at m in absurd u
      ]
    ]

    pub so_next : SoFar gone g then next (i + 1)
    so_next = record {
      through = noted_next.0;
      notes_are = noted_next.1;
      right = noted_next.2;
      within = next_within;
      kept = λ k y h o. next_there k y h (elim o [ inl f ↦ inl f | inr l ↦ inr (λ e. omega arith) ]) ∙ so.kept k y h (elim o [ inl f ↦ inl f | inr l ↦ inr (omega arith) ]);
      new = λ k y h t l a. elim (cases_lt k i) [
        | inl u ↦ subst (λ (z : List EntryKey). Has z a ↔ Stitch (Precedes g) gone a y.0) (sym (next_there k y h (inr (λ e. omega arith)))) (so.new k y h t u a)
        | inr u ↦
            let e : i ≡ k = omega arith in
            let v : x ≡ y = one_node g k x y (subst (λ j. IsAt g j x) e at_x) h in
            subst (λ (j : ℕ). Has (list_at next j y.1) a ↔ Stitch (Precedes g) gone a y.0) e
            (subst (λ (z : EntryKey × List EntryKey). is_late gone z ≡ true → Has (list_at next i z.1) a ↔ Stitch (Precedes g) gone a z.0) v
            (λ s. subst (λ (z : List EntryKey). Has z a ↔ Stitch (Precedes g) gone a x.0) (sym (next_here s)) (late_has (late_parts gone x s).0 a)) t)
      ];
    }

  pub so_all : (notes : EntryKey → List EntryKey) (lists : List (ℕ × List EntryKey)) (i : ℕ) → length g ≤ i → SoFar gone g notes lists i → Relists gone g lists
  so_all notes lists i l so = record {
    within = so.within;
    kept = λ k x h f. so.kept k x h (inl f);
    new = λ k x h t a.
        let r = so.new k x h t (let m = h.0 in omega (arith, m, l)) a in (
          (λ c. r.0 (has_from (list_at lists k x.1) a c)),
          (λ s. contains_from (list_at lists k x.1) a (r.1 s)),
        );
  }

  -- the notes of the whole pass
  pub notes_all : (notes : EntryKey → List EntryKey) (lists : List (ℕ × List EntryKey)) (i : ℕ) → length g ≤ i → SoFar gone g notes lists i
      → AreNoted gone (λ ps. all_pushed same_entry [] (resolved same_entry gone notes ps)) g
  notes_all notes lists i l so k x h f a =
      let is : all_pushed same_entry [] (resolved same_entry gone notes x.1) ≡ distinct same_entry gone so.through x.1 =
      ap (all_pushed same_entry []) (resolved-same same_entry gone notes (noted same_entry gone so.through) so.notes_are x.1)
      in
      let has = made same_entry gone same_entry-sound same_entry-refl (Precedes g) g precedes so.through (take i (nodes g)) so.right x (at_has g k x h)
      (λ p c. contains_from (take i (nodes g)) p (take_less (nodes g) k i p (let m = h.0 in omega (arith, m, l)) (before_at k x h p (has_from x.1 p c)))) a
      in (
        (λ c. let r = has.0 (subst (λ (z : List EntryKey). Has z a) is (has_from _ a c)) in record { hop = r.1; first = r.0; second = f }),
        (λ s. contains_from _ a (subst (λ (z : List EntryKey). Has z a) (sym is) (has.1 (s.first, s.hop)))),
      )
