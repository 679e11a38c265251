-- A merge is put together from its level and its groups.
use Rattle.std.proofs.Common.{◌≡◌, refl, ap, ◌∙◌, sym, subst, arith, Bool, true, false, List, [], ◌∷◌, inl, inr}
use Rattle.std.specs.Prelude.{Contains, AllPairs}
use Rattle.rd_graph.specs.Orders as order
use Rattle.rd_graph.specs.Orders.{Before, Chain}
use Rattle.rd_graph.specs.Graphs.{nodes, Precedes, Reaches}
use Rattle.rd_graph.proofs.Lists.Listing.{Has, Once, cases, never, has_from, contains_from}
use Rattle.rd_graph.proofs.Reaching.Calls.{once_of}
use Rattle.rd_list.specs.Entries.{Entries, nil, leaf, group, heads, only}
use Rattle.rd_list.specs.Levels.{Names, keys, inside, level_at}
use Rattle.rd_list.specs.Joining.{Among, Step}
use Rattle.rd_list.proofs.Merges.Named.{AreNames}
use Rattle.rd_list.specs.Kept.{Ordered, KeptList, bare, within, kept_at, reach_of, HasNodes}
use Rattle.rd_list.specs.Internal.Fits.{is_group, MergesTo, Assembling}
use Rattle.rd_list.proofs.Merges.Levelling.{inside-only}
use Rattle.rd_list.proofs.Merges.Nesting.{bare-within, by_levels}
use Rattle.rd_list.proofs.Merges.Fitting.{level_joined}

-- no step, no chain
no_chain : {A : Type 0} (step : A → A → Type 0) → ((a b : A) → step a b → ⊥) → (a b : A) → Chain step a b → ⊥
no_chain step none a b (order.last s) = none a b s
no_chain step none a b (order.more {b = c} s r) = none a c s

module _ {E G M L : Type 0} (n : Names E G L) (leaf_of : M → L) (stays : L → Bool) where
  pub level_nil : (path : List E) → level_at n path nil ≡ nil
  level_nil [] = refl
  level_nil (e ∷ path) = level_nil path

  abbrev pub empty : KeptList E G M
  empty = record { graph = []; entries = nil }

  pub kept_empty : (path : List E) → kept_at n leaf_of path empty ≡ empty
  kept_empty [] = refl
  kept_empty (e ∷ path) = kept_empty path

  no_edge : (a b : E) → Precedes [] a b → ⊥
  no_edge a b s = has_from [] (b, s.0) s.1

  pub reach_none : (path : List E) (a b : E) → reach_of n leaf_of empty path a b → ⊥
  reach_none path a b r = no_chain (Precedes []) no_edge a b (subst (λ (k : KeptList E G M). Reaches k.graph a b) (kept_empty path) r)

  -- where nothing stays and nothing is new, there is nothing
  nothing : (k : KeptList E G M) → only stays (bare n leaf_of k.entries) ≡ nil → MergesTo n leaf_of stays k nil empty
  nothing k is path =
      let S : Entries G L = only stays (bare n leaf_of k.entries) in
      let low : E → E → Type 0 = Among n (reach_of n leaf_of k) S path in
      let gone : level_at n path S ≡ nil = ap (level_at n path) is ∙ level_nil path in
      let none : level_at n path nil ≡ nil = level_nil path in
      let still : (a b : E) → Step n low (level_at n path nil) a b → ⊥ = λ a b s. elim s [
        | inl r ↦ has_from [] a (subst (λ x. Contains (keys n x) a) gone r.first)
        | inr r ↦ subst (λ x. Before (keys n x) a b) none r
      ] in
      record {
        entries = λ h. (
          (λ c. inr c),
          (λ c. elim c [ inl d ↦ absurd (has_from [] h (subst (λ x. Contains (heads x) h) gone d)) | inr d ↦ d ]),
        );
        once = subst (λ x. AllPairs (λ a b. n.same a b ≡ false) (keys n x)) (sym none) (λ i j d l m. absurd (omega arith));
        reach = λ a b. ((λ r. absurd (reach_none path a b r)), (λ r. absurd (no_chain (Step n low (level_at n path nil)) still a b r)));
        order = λ a b r. absurd (reach_none path a b r);
      }

  -- a name of no group
  inside_no : (e : E) (xs : Entries G L) → is_group n leaf_of stays e xs ≡ false → inside n e xs ≡ nil
  inside_no e nil f = refl
  inside_no e (leaf l xs) f = inside_no e xs f
  inside_no e (group g inner xs) f = elim (cases (n.same e (n.group g))) [
    | inl t ↦ let u : true ≡ false = rw t at f in absurd (cc)
    | inr u ↦ let v : is_group n leaf_of stays e xs ≡ false = rw u at f in rw u (inside_no e xs v)
  ]

  within_no : (e : E) (xs : Entries (Ordered E G) M) → is_group n leaf_of stays e (bare n leaf_of xs) ≡ false → within n leaf_of e xs ≡ empty
  within_no e nil f = refl
  within_no e (leaf m xs) f = within_no e xs f
  within_no e (group g inner xs) f = elim (cases (n.same e (n.group g.of))) [
    | inl t ↦ let u : true ≡ false = rw t at f in absurd (cc)
    | inr u ↦ let v : is_group n leaf_of stays e (bare n leaf_of xs) ≡ false = rw u at f in rw u (within_no e xs v)
  ]

  group_head : (e : E) (xs : Entries G L) → is_group n leaf_of stays e xs ≡ true → (g : G) × Has (heads xs) (inr g) × (n.same e (n.group g) ≡ true)
  group_head e nil t = absurd (cc)
  group_head e (leaf l xs) t = let r = group_head e xs t in (r.0, inr r.1, r.2)
  group_head e (group g inner xs) t = elim (cases (n.same e (n.group g))) [
    | inl u ↦ (g, inl refl, u)
    | inr u ↦ let v : is_group n leaf_of stays e xs ≡ true = rw u at t in let r = group_head e xs v in (r.0, inr r.1, r.2)
  ]

  pub head_group : (e : E) (xs : Entries G L) (g : G) → Has (heads xs) (inr g) → n.same e (n.group g) ≡ true → is_group n leaf_of stays e xs ≡ true
  head_group e nil g h t = absurd h
  head_group e (leaf l xs) g (inl q) t = absurd (let no : inl l ≡ inr g = q in cc)
  head_group e (leaf l xs) g (inr h) t = head_group e xs g h t
  head_group e (group k inner xs) g (inl q) t = let u : n.same e (n.group k) ≡ true = (let same : k ≡ g = cc in subst (λ (z : G). n.same e (n.group z) ≡ true) (sym same) t) in rw u refl
  head_group e (group k inner xs) g (inr h) t = elim (cases (n.same e (n.group k))) [ inl u ↦ rw u refl | inr u ↦ rw u (head_group e xs g h t) ]

  no_group : (e : E) (xs ys : Entries G L) → ((g : G) → Contains (heads xs) (inr g) → Contains (heads ys) (inr g)) → is_group n leaf_of stays e ys ≡ false → is_group n leaf_of stays e xs ≡ false
  no_group e xs ys f without_touched = elim (cases (is_group n leaf_of stays e xs)) [
    | inl t ↦ let r = group_head e xs t in absurd (never (is_group n leaf_of stays e ys) (head_group e ys r.0 (has_from (heads ys) (inr r.0) (f r.0 (contains_from (heads xs) (inr r.0) r.1))) r.2) without_touched)
    | inr u ↦ u
  ]

  pub assembling : AreNames n → Assembling n leaf_of stays
  assembling names = λ kept joined new fresh gone dropped line fits made same entries inner.
      let K : Entries G L = bare n leaf_of kept.entries in
      let J : Entries G L = bare n leaf_of joined.entries in
      let kept_once : Once (keys n K) = once_of (keys n K) (fits.once_kept []) in
      let joined_once : Once (keys n J) = subst Once (sym same) (once_of line made.ordered.once) in
      let top = level_joined n leaf_of stays names kept new fresh J gone dropped joined.graph line fits made same entries in
      let below : (e : E) → MergesTo n leaf_of stays (within n leaf_of e kept.entries) (inside n e new) (within n leaf_of e joined.entries) = λ e. elim (cases (is_group n leaf_of stays e J)) [
        | inl t ↦ (inner e t).0
        | inr f ↦
            let there : within n leaf_of e joined.entries ≡ empty = within_no e joined.entries f in
            let new_none : inside n e new ≡ nil = inside_no e new (no_group e new J (λ g c. (entries (inr g)).1 (inr c)) f) in
            let stay_none : inside n e (only stays K) ≡ nil = inside_no e (only stays K) (no_group e (only stays K) J (λ g c. (entries (inr g)).1 (inl c)) f) in
            let here : only stays (bare n leaf_of ((within n leaf_of e kept.entries).entries)) ≡ nil = ap (only stays) (sym (bare-within n leaf_of names e kept.entries kept_once)) ∙ sym (inside-only n stays e K) ∙ stay_none in
            subst (λ (x : Entries G L). MergesTo n leaf_of stays (within n leaf_of e kept.entries) x (within n leaf_of e joined.entries)) (sym new_none)
            (subst (λ (j : KeptList E G M). MergesTo n leaf_of stays (within n leaf_of e kept.entries) nil j) (sym there) (nothing (within n leaf_of e kept.entries) here))
      ] in (
        by_levels n leaf_of names stays kept joined new kept_once joined_once top below,
        (λ path. nodes_of joined (made.standing ∙ sym same) (λ e t. (inner e t).1) path),
      )
    where
      nodes_of : (joined : KeptList E G M) → nodes joined.graph ≡ keys n (bare n leaf_of joined.entries)
          → ((e : E) → is_group n leaf_of stays e (bare n leaf_of joined.entries) ≡ true → HasNodes n leaf_of (within n leaf_of e joined.entries)) → HasNodes n leaf_of joined
      nodes_of joined here inner [] = here
      nodes_of joined here inner (e ∷ path) = elim (cases (is_group n leaf_of stays e (bare n leaf_of joined.entries))) [
        | inl t ↦ inner e t path
        | inr f ↦
            let there : kept_at n leaf_of path (within n leaf_of e joined.entries) ≡ empty = ap (kept_at n leaf_of path) (within_no e joined.entries f) ∙ kept_empty path in
            subst (λ (k : KeptList E G M). nodes k.graph ≡ keys n (bare n leaf_of k.entries)) (sym there) refl
      ]
