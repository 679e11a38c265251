-- New lists of the nodes of a chain.
use Rattle.std.proofs.Common.{◌≡◌, refl, ap, ◌∙◌, sym, subst, ℕ, ◌+◌, ◌<◌, Bool, true, false, cond, List, [], ◌∷◌, ◌++◌, length, take, get_or, Option, Some, None, inl, inr, ◌⊎◌, arith}
use Rattle.std.specs.Prelude.{Contains, ◌↔◌}
use Rattle.std.proofs.lemmas.List.{take_more, append-nil}
use Rattle.rd_keys.specs.declared.entry.EntryKey.{EntryKey}
use Rattle.rd_graph.specs.Orders as order
use Rattle.rd_graph.specs.Graphs.{Graph, nodes, Precedes, Stitch, IsInOrder}
use Rattle.rd_graph.specs.Laws.{Full}
use Rattle.rd_graph.specs.Names.{is_in, place_of, same_entry}
use Rattle.rd_graph.specs.Gathered.{gathered}
use Rattle.rd_graph.specs.Patches.{AreWithin, with_lists, is_gone, IsRelisted}
use Rattle.rd_graph.specs.Internal.Chains.{before_place, just_before}
use Rattle.rd_graph.specs.Internal.Relisting.{list_at, IsAt, has_all, some_gone, is_late, keeps, own, relinked, on_chain, along, AreNoted, Relists, GoesAlong, GoesAlongAt}
use Rattle.rd_graph.proofs.Lists.Listing.{Has, Once, cases, never, has_from, contains_from, has_either}
use Rattle.rd_graph.proofs.Reaching.Calls.{once_of}
use Rattle.rd_graph.proofs.Lists.Entries.{same_entry-sound, same_entry-refl, not_yet, is_in-more, in_has, has_in, has_get, place_some, place_none, place_has}
use Rattle.rd_graph.proofs.Reaching.Adding.{before_next, next_before, next_in}
use Rattle.rd_graph.proofs.Reaching.Joining.{joined_either, joined_left, joined_right}
use Rattle.rd_graph.proofs.Patches.ListsAt.{list_at-here, list_at-there, edges_by}
use Rattle.rd_graph.proofs.Patches.Late.{name_at, one_node, unchanged}

some_same : (m n : ℕ) → Some m ≡ Some n → m ≡ n
some_same m n e = cc

module _ (gone : EntryKey → Bool) (resolves : List EntryKey → List EntryKey) (chain : List EntryKey) (g : Graph EntryKey) (sound : IsInOrder g) (once : order.Once chain) where
  g_once : Once (nodes g)
  g_once = once_of (nodes g) sound.once

  abbrev Along : List EntryKey → List (ℕ × List EntryKey) → List (ℕ × List EntryKey) → Type 0
  Along part old new = GoesAlong gone same_entry resolves chain part g old new

  -- two places of one name
  one_place : (j k : ℕ) (x y : EntryKey × List EntryKey) → IsAt g j x → IsAt g k y → x.0 ≡ y.0 → j ≡ k
  one_place j k x y h i e =
      let n = name_at g j x h in
      let m = name_at g k y i in
      some_same j k
      (sym (subst (λ z. place_of same_entry (nodes g) z ≡ Some j) (n.1 x.0) (place_has same_entry same_entry-sound same_entry-refl (nodes g) j x.0 g_once n.0))
      ∙ ap (place_of same_entry (nodes g)) e
      ∙ subst (λ z. place_of same_entry (nodes g) z ≡ Some k) (m.1 y.0) (place_has same_entry same_entry-sound same_entry-refl (nodes g) k y.0 g_once m.0))

  pub along_none : (old : List (ℕ × List EntryKey)) → Along [] old old
  along_none old = record { within = λ h. h; lists = λ k x h. refl }

  -- there is no node
  pub along_no_node : (old : List (ℕ × List EntryKey)) → length g ≡ 0 → Along chain old old
  along_no_node old e = record { within = λ h. h; lists = λ k x h. absurd (let l = h.0 in omega (arith, e, l)) }

  -- a name that is not this one
  along_other : (i : ℕ) (d : EntryKey) (x : EntryKey × List EntryKey) (ps : List EntryKey) → i < length chain → same_entry (get_or chain i d) x.0 ≡ false
      → along gone same_entry resolves chain (take (i + 1) chain) x ps ≡ along gone same_entry resolves chain (take i chain) x ps
  along_other i d x ps l f =
      let e : is_in same_entry (take (i + 1) chain) x.0 ≡ is_in same_entry (take i chain) x.0 =
      ap (λ ks. is_in same_entry ks x.0) (take_more chain i d l) ∙ is_in-more same_entry (take i chain) (get_or chain i d) x.0 ∙ (rw f refl)
      in
      rw e refl

  along_this : (i : ℕ) (d : EntryKey) (x : EntryKey × List EntryKey) (ps : List EntryKey) → i < length chain → get_or chain i d ≡ x.0
      → (along gone same_entry resolves chain (take (i + 1) chain) x ps ≡ on_chain gone same_entry resolves chain x ps) × (along gone same_entry resolves chain (take i chain) x ps ≡ ps)
  along_this i d x ps l e =
      let t : same_entry (get_or chain i d) x.0 ≡ true = subst (λ z. same_entry (get_or chain i d) z ≡ true) e (same_entry-refl (get_or chain i d)) in
      let u : is_in same_entry (take (i + 1) chain) x.0 ≡ true =
      ap (λ ks. is_in same_entry ks x.0) (take_more chain i d l) ∙ is_in-more same_entry (take i chain) (get_or chain i d) x.0 ∙ (rw t refl)
      in
      let v : is_in same_entry (take i chain) x.0 ≡ false = elim (cases (is_in same_entry (take i chain) x.0)) [
        | inl w ↦ absurd (not_yet chain i d (once_of chain once) l (subst (λ z. Has (take i chain) z) (sym e) (in_has same_entry same_entry-sound (take i chain) x.0 w)))
        | inr w ↦ w
      ] in
      (rw u refl, rw v refl)

  on_kept : (x : EntryKey × List EntryKey) (ps : List EntryKey) → keeps gone same_entry (just_before same_entry chain x.0) x ≡ true → on_chain gone same_entry resolves chain x ps ≡ ps
  on_kept x ps t = rw t refl

  on_other : (x : EntryKey × List EntryKey) (ps : List EntryKey) → keeps gone same_entry (just_before same_entry chain x.0) x ≡ false → on_chain gone same_entry resolves chain x ps ≡ relinked gone same_entry resolves (just_before same_entry chain x.0) x
  on_other x ps f = rw f refl

  kept_parts : (x : EntryKey × List EntryKey) → keeps gone same_entry (just_before same_entry chain x.0) x ≡ true
      → (gone x.0 ≡ false) × (some_gone gone x.1 ≡ false) × (has_all same_entry x.1 (just_before same_entry chain x.0) ≡ true)
  kept_parts x t = elim (cases (gone x.0)) [
    | inl g ↦ let u : false ≡ true = rw g at t in absurd (cc)
    | inr f ↦ elim (cases (some_gone gone x.1)) [
      | inl s ↦ let u : false ≡ true = rw (f, s) at t in absurd (cc)
      | inr s ↦ let u : has_all same_entry x.1 (just_before same_entry chain x.0) ≡ true = rw (f, s) at t in (f, s, u)
    ]
  ]

  -- one more name of the chain
  module _ (i : ℕ) (d : EntryKey) (old now next : List (ℕ × List EntryKey)) (l : i < length chain) (so : Along (take i chain) old now) where
    next_none : place_of same_entry (nodes g) (get_or chain i d) ≡ None → next ≡ now → Along (take (i + 1) chain) old next
    next_none none is = record {
      within = λ h. subst (λ ls. AreWithin ls g) (sym is) (so.within h);
      lists = λ k x h.
          let n = name_at g k x h in
          let f : same_entry (get_or chain i d) x.0 ≡ false = elim (cases (same_entry (get_or chain i d) x.0)) [
            | inl t ↦ absurd (place_none same_entry same_entry-sound same_entry-refl (nodes g) (get_or chain i d) none
                (subst (λ z. Has (nodes g) z) (n.1 x.0 ∙ sym (same_entry-sound (get_or chain i d) x.0 t)) (has_get (nodes g) k x.0 n.0)))
            | inr u ↦ u
          ] in
          ap (λ ls. list_at ls k x.1) is ∙ so.lists k x h ∙ sym (along_other i d x (list_at old k x.1) l f);
    }

    module _ (p : ℕ) (y : EntryKey × List EntryKey) (at_y : IsAt g p y) (named : get_or chain i d ≡ y.0)
        (is : next ≡ now ++ cond (keeps gone same_entry (just_before same_entry chain y.0) y) [] ((p, relinked gone same_entry resolves (just_before same_entry chain y.0) y) ∷ [])) where
      list_here : list_at next p y.1 ≡ along gone same_entry resolves chain (take (i + 1) chain) y (list_at old p y.1)
      list_here =
          let both = along_this i d y (list_at old p y.1) l named in
          elim (cases (keeps gone same_entry (just_before same_entry chain y.0) y)) [
            | inl t ↦
                let e : next ≡ now ++ [] = rw t at is in
                ap (λ ls. list_at ls p y.1) (e ∙ append-nil now) ∙ so.lists p y at_y ∙ both.1 ∙ sym (on_kept y (list_at old p y.1) t) ∙ sym both.0
            | inr f ↦
                let e : next ≡ now ++ (p, relinked gone same_entry resolves (just_before same_entry chain y.0) y) ∷ [] = rw f at is in
                ap (λ ls. list_at ls p y.1) e ∙ list_at-here now p (relinked gone same_entry resolves (just_before same_entry chain y.0) y) y.1 ∙ sym (on_other y (list_at old p y.1) f) ∙ sym both.0
          ]

      list_there : (k : ℕ) (x : EntryKey × List EntryKey) → IsAt g k x → (p ≡ k → ⊥) → list_at next k x.1 ≡ list_at now k x.1
      list_there k x h q = elim (cases (keeps gone same_entry (just_before same_entry chain y.0) y)) [
        | inl t ↦ let e : next ≡ now ++ [] = rw t at is in ap (λ ls. list_at ls k x.1) (e ∙ append-nil now)
        | inr f ↦
            let e : next ≡ now ++ (p, relinked gone same_entry resolves (just_before same_entry chain y.0) y) ∷ [] = rw f at is in
            ap (λ ls. list_at ls k x.1) e ∙ list_at-there now p k (relinked gone same_entry resolves (just_before same_entry chain y.0) y) x.1 q
      ]

      next_within : AreWithin now g → AreWithin next g
      next_within w m c = elim (has_either now (cond (keeps gone same_entry (just_before same_entry chain y.0) y) [] ((p, relinked gone same_entry resolves (just_before same_entry chain y.0) y) ∷ [])) m (has_from _ m (subst (λ ls. Contains ls m) is c))) [
        | inl h ↦ w m (contains_from now m h)
        | inr h ↦ elim (cases (keeps gone same_entry (just_before same_entry chain y.0) y)) [
          | inl t ↦ let u : Has {A = ℕ × List EntryKey} [] m = rw t at h in absurd u
          | inr f ↦
              let u : Has ((p, relinked gone same_entry resolves (just_before same_entry chain y.0) y) ∷ []) m = rw f at h in
              elim u [ inl e ↦ subst (λ j. j < length g) (ap (λ q. q.0) e) at_y.0 | inr n ↦ absurd n ]
        ]
      ]

      next_some : Along (take (i + 1) chain) old next
      next_some = record {
        within = λ h. next_within (so.within h);
        lists = λ k x h. elim (cases (same_entry (get_or chain i d) x.0)) [
          | inl t ↦
              let e : y.0 ≡ x.0 = sym named ∙ same_entry-sound (get_or chain i d) x.0 t in
              let q : p ≡ k = one_place p k y x at_y h e in
              let v : y ≡ x = one_node g k y x (subst (λ j. IsAt g j y) q at_y) h in
              subst (λ (j : ℕ). list_at next j x.1 ≡ along gone same_entry resolves chain (take (i + 1) chain) x (list_at old j x.1)) q
              (subst (λ (z : EntryKey × List EntryKey). list_at next p z.1 ≡ along gone same_entry resolves chain (take (i + 1) chain) z (list_at old p z.1)) v list_here)
          | inr f ↦
              let q : p ≡ k → ⊥ = λ e. never (same_entry (get_or chain i d) x.0)
              (subst (λ z. same_entry (get_or chain i d) z ≡ true) (named ∙ ap (λ z. z.0) (one_node g k y x (subst (λ j. IsAt g j y) e at_y) h)) (same_entry-refl (get_or chain i d))) f
              in
              list_there k x h q ∙ so.lists k x h ∙ sym (along_other i d x (list_at old k x.1) l f)
        ];
      }

    pub along_next : (place : Option ℕ) → place ≡ place_of same_entry (nodes g) (get_or chain i d) → (edge : List EntryKey) → edge ≡ before_place chain (Some i)
        → GoesAlongAt gone same_entry resolves edge place g now next → Along (take (i + 1) chain) old next
    along_next None e edge u h = next_none (sym e) h
    along_next (Some p) e edge u h =
        let r = place_some same_entry same_entry-sound same_entry-refl (nodes g) (get_or chain i d) p (sym e) in
        let named : get_or chain i d ≡ h.0.0 = sym (r.1 d) ∙ (name_at g p h.0 h.1).1 d in
        let is : edge ≡ just_before same_entry chain h.0.0 =
        u ∙ ap (before_place chain) (sym (place_has same_entry same_entry-sound same_entry-refl chain i d (once_of chain once) l)) ∙ ap (just_before same_entry chain) named
        in
        next_some p h.0 h.1 named
        (subst (λ (es : List EntryKey). next ≡ now ++ cond (keeps gone same_entry es h.0) [] ((p, relinked gone same_entry resolves es h.0) ∷ [])) is h.2)

  -- ---- all new lists

  module _ (old new : List (ℕ × List EntryKey)) (noted : AreNoted gone resolves g) (late : Relists gone g old) (all : Along chain old new) where
    next_full : (a b : EntryKey) → Has (just_before same_entry chain b) a → Full g gone chain a b
    next_full a b m = inr (before_next same_entry same_entry-sound same_entry-refl chain a b m)

    -- what a node has before the edge of the chain
    own_is : (k : ℕ) (x : EntryKey × List EntryKey) → IsAt g k x → (a : EntryKey) → Has (own gone resolves x) a ↔ Stitch (Precedes g) gone a x.0
    own_is k x h a = elim (cases (gone x.0)) [
      | inl t ↦ rw t ((λ m. absurd m), (λ s. absurd (never (gone x.0) t s.second)))
      | inr f ↦ elim (cases (some_gone gone x.1)) [
        | inl s ↦
            let r = noted k x h f a in
            rw (f, s) ((λ m. r.0 (contains_from (resolves x.1) a m)), (λ c. has_from (resolves x.1) a (r.1 c)))
        | inr s ↦ rw (f, s) (unchanged gone g sound k x h f s a)
      ]
    ]

    -- a new list of a node of the chain
    for_relinked : (k : ℕ) (x : EntryKey × List EntryKey) → IsAt g k x → (a : EntryKey)
        → Has (relinked gone same_entry resolves (just_before same_entry chain x.0) x) a ↔ Full g gone chain a x.0
    for_relinked k x h a = (
      (λ m. elim (joined_either same_entry same_entry-sound same_entry-refl (own gone resolves x) (just_before same_entry chain x.0) a m) [
        | inl u ↦ inl ((own_is k x h a).0 u)
        | inr u ↦ next_full a x.0 u
      ]),
      (λ m. elim m [
        | inl u ↦ joined_left same_entry same_entry-sound same_entry-refl (own gone resolves x) (just_before same_entry chain x.0) a ((own_is k x h a).1 u)
        | inr u ↦ joined_right same_entry same_entry-sound same_entry-refl (own gone resolves x) (just_before same_entry chain x.0) a (next_before same_entry same_entry-sound same_entry-refl chain (once_of chain once) a x.0 u)
      ]),
    )

    -- one that has the edge of the chain already
    for_edge : (k : ℕ) (x : EntryKey × List EntryKey) (a : EntryKey) → IsAt g k x → gone x.0 ≡ false → some_gone gone x.1 ≡ false → has_all same_entry x.1 (just_before same_entry chain x.0) ≡ true
        → Has (list_at old k x.1) a ↔ Full g gone chain a x.0
    for_edge k x a h f s u =
        let e : list_at old k x.1 ≡ x.1 = late.kept k x h (rw f s) in
        let r = for_relinked k x h a in
        let v : Has x.1 a ↔ Full g gone chain a x.0 = rw (f, s, u) at r in
        subst (λ (z : List EntryKey). Has z a ↔ Full g gone chain a x.0) (sym e) v

    -- one that is not in the chain
    for_other : (x : EntryKey × List EntryKey) (a : EntryKey) → is_in same_entry chain x.0 ≡ false → Stitch (Precedes g) gone a x.0 ↔ Full g gone chain a x.0
    for_other x a o = (
      (λ s. inl s),
      (λ m. elim m [
        | inl u ↦ u
        | inr u ↦ absurd (never (is_in same_entry chain x.0) (has_in same_entry same_entry-refl chain x.0 (next_in same_entry same_entry-sound same_entry-refl chain a x.0 u)) o)
      ]),
    )

    abbrev Wanted : EntryKey → Type 0
    Wanted b = (gone b ≡ false) ⊎ Contains chain b

    abbrev Right : List EntryKey → EntryKey × List EntryKey → Type 0
    Right ps x = (a : EntryKey) → Has ps a ↔ Full g gone chain a x.0

    in_chain : (k : ℕ) (x : EntryKey × List EntryKey) → IsAt g k x → Right (on_chain gone same_entry resolves chain x (list_at old k x.1)) x
    in_chain k x h a = elim (cases (keeps gone same_entry (just_before same_entry chain x.0) x)) [
      | inl t ↦
          let r = kept_parts x t in
          subst (λ (z : List EntryKey). Has z a ↔ Full g gone chain a x.0) (sym (on_kept x (list_at old k x.1) t)) (for_edge k x a h r.0 r.1 r.2)
      | inr f ↦ subst (λ (z : List EntryKey). Has z a ↔ Full g gone chain a x.0) (sym (on_other x (list_at old k x.1) f)) (for_relinked k x h a)
    ]

    not_in_chain : (k : ℕ) (x : EntryKey × List EntryKey) → IsAt g k x → gone x.0 ≡ false → is_in same_entry chain x.0 ≡ false → Right (list_at old k x.1) x
    not_in_chain k x h f o a =
        let full = for_other x a o in
        elim (cases (some_gone gone x.1)) [
          | inl s ↦
              let t : is_late gone x ≡ true = rw f s in
              let r = late.new k x h t a in
              ((λ m. full.0 (r.0 (contains_from (list_at old k x.1) a m))), (λ c. has_from (list_at old k x.1) a (r.1 (full.1 c))))
          | inr s ↦
              let e : list_at old k x.1 ≡ x.1 = late.kept k x h (rw f s) in
              let r = unchanged gone g sound k x h f s a in
              subst (λ (z : List EntryKey). Has z a ↔ Full g gone chain a x.0) (sym e) ((λ m. full.0 (r.0 m)), (λ c. r.1 (full.1 c)))
        ]

    right_at : (k : ℕ) (x : EntryKey × List EntryKey) → IsAt g k x → Wanted x.0 → Right (list_at new k x.1) x
    right_at k x h w =
        let e : list_at new k x.1 ≡ along gone same_entry resolves chain chain x (list_at old k x.1) = all.lists k x h in
        elim (cases (is_in same_entry chain x.0)) [
          | inl t ↦ let u : list_at new k x.1 ≡ on_chain gone same_entry resolves chain x (list_at old k x.1) = rw t at e in subst (λ (z : List EntryKey). Right z x) (sym u) (in_chain k x h)
          | inr o ↦
              let u : list_at new k x.1 ≡ list_at old k x.1 = rw o at e in
              let f : gone x.0 ≡ false = elim w [ inl v ↦ v | inr c ↦ absurd (never (is_in same_entry chain x.0) (has_in same_entry same_entry-refl chain x.0 (has_from chain x.0 c)) o) ] in
              subst (λ (z : List EntryKey). Right z x) (sym u) (not_in_chain k x h f o)
        ]

    pub all_within : AreWithin new g
    all_within = all.within late.within

    pub all_edges : (a b : EntryKey) → Contains (nodes g) b → Wanted b → Precedes (with_lists new g) a b ↔ Full g gone chain a b
    all_edges a b c w = edges_by (λ a b. Full g gone chain a b) Wanted new g right_at a b c w

-- the same of the nodes at these places
pub relisted : (gone : List ℕ) (resolves : List EntryKey → List EntryKey) (chain : List EntryKey) (g : Graph EntryKey) (names : EntryKey → Bool) (old new : List (ℕ × List EntryKey)) → IsInOrder g → order.Once chain
    → ((k : EntryKey) → names k ≡ is_in same_entry (gathered gone (nodes g)) k) → AreNoted names resolves g → Relists names g old → GoesAlong names same_entry resolves chain chain g old new → IsRelisted gone chain g new
relisted gone resolves chain g names old new sound once fits noted late all =
    let e : names ≡ is_gone gone g = λ i k. fits k i in
    record {
      within = all_within names resolves chain g sound once old new noted late all;
      edges = subst (λ (f : EntryKey → Bool). (a b : EntryKey) → Contains (nodes g) b → (f b ≡ false) ⊎ Contains chain b → Precedes (with_lists new g) a b ↔ Full g f chain a b) e (all_edges names resolves chain g sound once old new noted late all);
    }
