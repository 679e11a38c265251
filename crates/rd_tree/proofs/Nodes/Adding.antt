-- A box more in the index and within the limits.
use Rattle.std.proofs.Common.{◌≡◌, refl, ap, ◌∙◌, sym, subst, ◌+◌, ◌<◌, ℕ, Bool, true, false, cond, List, [], arith, inl, inr}
use Rattle.std.specs.Prelude.{Option, Some, None, String, option_map}
use Rattle.std.specs.HashMap.{HashMap, get_by_text, Updates}
use Rattle.std.specs.Map.{lookup}
use Rattle.std.specs.String.{string_bytes, string_eq}
use Rattle.std.proofs.lemmas.Map.Text.{hash_map_updates_text}
use Rattle.std.specs.Str.{bytes_eq}
use Rattle.rd_keys.specs.Keys.{same_key}
use Rattle.rd_keys.specs.Arena.{Arena, value, live, occupied, Enters}
use Rattle.rd_keys.proofs.Calls.{value-before, live-enters, occupied-enters, limit-enters}
use Rattle.rd_keys.proofs.Keys.{same_key-sound, same_key-refl}
use Rattle.rd_tree.specs.declared.node.Node as inner
use Rattle.rd_tree.specs.Forest.{empty, tree, has, children, IsPlaceIn}
use Rattle.rd_tree.specs.Internal.Links.{Node, ends_of, left_of, grafted}
use Rattle.rd_style.specs.Limits.{Fits}
use Rattle.rd_tree.specs.Limits.{IsNear}
use Rattle.rd_tree.specs.Document.{BoxKey, Item, named, with_taken}
use Rattle.rd_tree.specs.Ids.{is_id}
use Rattle.rd_tree.specs.Internal.Linked.{plain, linked, Relinks, IsTree, seen, marks, item_at, IsIndexed, AddsText, EachFits, IsConsistent}
use Rattle.rd_tree.proofs.Nodes.Marks.{marks-enters}
use Rattle.rd_tree.proofs.Linking.Standing.{cases}
use Rattle.rd_tree.proofs.Nodes.Grow.{fresh, alone, linked_put, GrownTree, grow_tree, planted, no_value}
use Rattle.rd_tree.proofs.Nodes.Items.{items_grown}
use Rattle.rd_tree.proofs.Nodes.Naming.{bytes_same, bytes_refl, named_seen}

-- A value that comes in leaves the first generation.
first_enters : (old new : Arena inner.Node) (s g : ℕ) (x : inner.Node) → Enters old new s g x → new.first ≡ old.first
first_enters old new s g x e = ap (λ a. a.first) e.result

-- Where the items are as before but for one more.
abbrev AddsItem : BoxKey → Item → (BoxKey → Option Item) → (BoxKey → Option Item) → Type 0
AddsItem k d old new = (j : BoxKey) → new j ≡ cond (same_key k j) (Some d) (old j)

fits_added : (k : BoxKey) (d : Item) (old new : BoxKey → Option Item) → AddsItem k d old new → IsNear d.rect → Fits d.style → EachFits old → EachFits new
fits_added k d old new more r s h j e n =
    elim (cases (same_key k j)) [
      | inl u ↦
          let q : cond (same_key k j) (Some d) (old j) ≡ Some e = sym (more j) ∙ n in
          let q2 : Some d ≡ Some e = rw u at q in
          let i : d ≡ e = cc (q2) in
          subst (λ x. IsNear x.rect × Fits x.style) i (r, s)
      | inr u ↦
          let q : cond (same_key k j) (Some d) (old j) ≡ Some e = sym (more j) ∙ n in
          h j e (rw u at q)
    ]

indexed_added : {Y S : Type 0} (k : BoxKey) (d : Item) (old new : BoxKey → Option Item) (ids0 ids1 : HashMap (String Y) BoxKey S) →
    AddsItem k d old new → old k ≡ None → get_by_text ids0 d.id ≡ None → AddsText d.id k ids0 ids1 → IsIndexed old ids0 → IsIndexed new ids1
indexed_added k d old new ids0 ids1 more free none adds x = record { named = named_in; live = live_in; are = are_in } where
  named_in : (j : BoxKey) (e : Item) → new j ≡ Some e → get_by_text ids1 e.id ≡ Some j
  named_in j e n =
      let q : cond (same_key k j) (Some d) (old j) ≡ Some e = sym (more j) ∙ n in
      elim (cases (same_key k j)) [
        | inl u ↦
            let q2 : Some d ≡ Some e = rw u at q in
            let i : d ≡ e = cc (q2) in
            let f : get_by_text ids1 d.id ≡ Some k = adds.1 d.id ∙ rw (bytes_refl d.id) refl in
            subst (λ y. get_by_text ids1 y.id ≡ Some j) i (subst (λ y. get_by_text ids1 d.id ≡ Some y) (same_key-sound k j u) f)
        | inr u ↦
            let o : get_by_text ids0 e.id ≡ Some j = x.named j e (rw u at q) in
            elim (cases (bytes_eq d.id e.id)) [
              | inl v ↦ let w : get_by_text ids0 d.id ≡ Some j = subst (λ y. get_by_text ids0 y ≡ Some j) (sym (bytes_same d.id e.id v)) o in cc (w, none)
              | inr v ↦ adds.1 e.id ∙ rw v o
            ]
      ]

  live_in : (i : List ℕ) (j : BoxKey) → get_by_text ids1 i ≡ Some j → option_map (λ y. y.id) (new j) ≡ Some i
  live_in i j g =
      elim (cases (bytes_eq d.id i)) [
        | inl v ↦
            let q : Some k ≡ Some j = sym (adds.1 i ∙ rw v refl) ∙ g in
            let n : k ≡ j = cc (q) in
            let f : option_map (λ y. y.id) (new k) ≡ Some i = ap (option_map (λ y. y.id)) (more k) ∙ rw (same_key-refl k) (ap Some (bytes_same d.id i v)) in
            subst (λ y. option_map (λ y. y.id) (new y) ≡ Some i) n f
        | inr v ↦
            let q : get_by_text ids0 i ≡ Some j = sym (adds.1 i ∙ rw v refl) ∙ g in
            let o : option_map (λ y. y.id) (old j) ≡ Some i = x.live i j q in
            elim (cases (same_key k j)) [
              | inl u ↦
                  let w : option_map (λ y. y.id) (old k) ≡ Some i = subst (λ y. option_map (λ y. y.id) (old y) ≡ Some i) (sym (same_key-sound k j u)) o in
                  let w2 : None ≡ Some i = sym (ap (option_map (λ y. y.id)) free) ∙ w in
                  cc (w2)
              | inr u ↦ ap (option_map (λ y. y.id)) (more j) ∙ rw u o
            ]
      ]

  are_in : (j : BoxKey) (e : Item) → new j ≡ Some e → is_id e.id ≡ true
  are_in j e n =
      let q : cond (same_key k j) (Some d) (old j) ≡ Some e = sym (more j) ∙ n in
      elim (cases (same_key k j)) [
        | inl u ↦
            let q2 : Some d ≡ Some e = rw u at q in
            let i : d ≡ e = cc (q2) in
            subst (λ y. is_id y.id ≡ true) i adds.0
        | inr u ↦ x.are j e (rw u at q)
      ]

-- A box came in with its id, and the links round it were set.
pub grow_sound : {Y S : Type 0} (a0 a1 a2 : Arena inner.Node) (root p k : BoxKey) (before : Option BoxKey) (d : Item) (ids0 ids1 : HashMap
    (String Y) BoxKey S) →
    IsConsistent a0 root ids0 → occupied a0 < 20000 → has same_key p (seen a0 root) ≡ true → IsPlaceIn same_key before (children same_key p (seen a0 root))
    → named d.id (seen a0 root) ≡ None →
    IsNear d.rect → Fits d.style → value a0 k.slot k.generation ≡ None →
    Enters a0 a1 k.slot k.generation (fresh d p (left_of (linked a0) (ends_of (linked a0 p)).1 before) before) → live a1 ≡ live a0 + 1 → occupied a1
    ≡ occupied a0 + 1 → AddsText d.id k ids0 ids1 →
    Relinks a1 a2 (grafted same_key p k (left_of (linked a0) (ends_of (linked a0 p)).1 before) before (ends_of (linked a0 p)).0 (ends_of (linked a0 p)).1
    (linked a1)) →
    IsConsistent a2 root ids1 × GrownTree a0 a2 root p k before d × (marks a2 ≡ with_taken (marks a0) k)
grow_sound a0 a1 a2 root p k before d ids0 ids1 s room m place new_id r st free stored more still adds r2 =
    let room2 : occupied a0 < a0.limit = rw s.limit room in
    let g : GrownTree a0 a2 root p k before d = grow_tree a0 a1 a2 root p k before d s.tree room2 m place free stored more still r2 in
    let v : Option BoxKey = left_of (linked a0) (ends_of (linked a0 p)).1 before in
    let items : AddsItem k d (item_at a0) (item_at a2) = items_grown a0 a1 a2 p k (fresh d p v before) v before (ends_of (linked a0 p)).0 (ends_of
    (linked a0 p)).1 stored r2 in
    let dead : item_at a0 k ≡ None = ap (λ o. option_map (λ n. n.item) (option_map plain o)) free in (
      record {
        tree = g.is;
        indexed = indexed_added k d (item_at a0) (item_at a2) ids0 ids1 items dead (named_seen a0 root ids0 d.id s ∙ new_id) adds s.indexed;
        fits = fits_added k d (item_at a0) (item_at a2) items r st s.fits;
        limit = r2.limit ∙ (limit-enters a0 a1 k.slot k.generation (fresh d p v before) stored ∙ s.limit);
        first = r2.first ∙ (first_enters a0 a1 k.slot k.generation (fresh d p v before) stored ∙ s.first);
      },
      g,
      r2.same_slots ∙ marks-enters a0 a1 k (fresh d p v before) stored,
    )

-- The first box came in.
pub planted_sound : {Y S : Type 0} (a0 a1 : Arena inner.Node) (k : BoxKey) (d : Item) (ids0 ids1 : HashMap (String Y) BoxKey S) →
    a0.slots ≡ [] → a0.limit ≡ 20000 → a0.first ≡ 0 → IsNear d.rect → Fits d.style → Enters a0 a1 k.slot k.generation (alone d) → live a1 ≡ live a0 + 1
    → occupied a1 ≡ occupied a0 + 1 →
    ((i : List ℕ) → get_by_text ids0 i ≡ None) → AddsText d.id k ids0 ids1 →
    IsConsistent a1 k ids1 × (seen a1 k ≡ tree k d empty empty)
planted_sound a0 a1 k d ids0 ids1 none limit first r st stored more still no_id adds =
    let t : (t : IsTree a1 k) × (seen a1 k ≡ tree k d empty empty) = planted a0 a1 k d none (rw limit (omega arith)) stored more still in
    let nothing : (j : BoxKey) → item_at a0 j ≡ None = λ j. ap (λ o. option_map (λ n. n.item) (option_map plain o)) (no_value a0 j.slot j.generation none) in
    let items : AddsItem k d (item_at a0) (item_at a1) = λ j. ap (option_map (λ n. n.item)) (linked_put a0 a1 k (alone d) stored j) ∙ kept (same_key k j)
    (linked a0 j) in
    let x : IsIndexed (item_at a0) ids0 = record { named = λ j e h. cc (h, nothing j); live = λ i j h. cc (h, no_id i); are = λ j e h. cc (h, nothing j) } in (
      record {
        tree = t.0;
        indexed = indexed_added k d (item_at a0) (item_at a1) ids0 ids1 items (nothing k) (no_id d.id) adds x;
        fits = fits_added k d (item_at a0) (item_at a1) items r st (λ j e h. cc (h, nothing j));
        limit = limit-enters a0 a1 k.slot k.generation (alone d) stored ∙ limit;
        first = first_enters a0 a1 k.slot k.generation (alone d) stored ∙ first;
      },
      t.1,
    ) where
      kept : (b : Bool) (o : Option (Node BoxKey Item)) → option_map (λ n. n.item) (cond b (Some (plain (alone d))) o) ≡ cond b (Some d) (option_map
          (λ n. n.item) o)
      kept true o = refl
      kept false o = refl

-- An index with the same entries serves as well.
pub same_entries : {Y S : Type 0} (a : Arena inner.Node) (root : BoxKey) (ids0 ids1 : HashMap (String Y) BoxKey S) → ids1.entries ≡ ids0.entries
    → IsConsistent a root ids0 → IsConsistent a root ids1
same_entries a root ids0 ids1 e s =
    let same : (i : List ℕ) → get_by_text ids1 i ≡ get_by_text ids0 i = λ i. ap (lookup (λ k. bytes_eq i (string_bytes k))) e in
    record {
      tree = s.tree;
      indexed = record {
        named = λ k d h. same d.id ∙ s.indexed.named k d h;
        live = λ i k h. s.indexed.live i k (sym (same i)
            ∙ h);
        are = s.indexed.are;
      };
      fits = s.fits;
      limit = s.limit;
      first = s.first;
    }

-- What an insertion into the index does.
pub added_text : {Y S : Type 0} (ids0 ids1 ids2 : HashMap (String Y) BoxKey S) (name : String Y) (i : List ℕ) (k : BoxKey) →
    ids1.entries ≡ ids0.entries → string_bytes name ≡ i → is_id i ≡ true → Updates string_eq ids1 ids2 name (Some k) → AddsText i k ids0 ids2
added_text ids0 ids1 ids2 name i k e n is u = (
  is,
  λ j.
      let h : get_by_text ids2 j ≡ cond (bytes_eq (string_bytes name) j) (Some k) (get_by_text ids1 j) = hash_map_updates_text (string_bytes name) ids1 ids2
      (Some k) u j in
      let same : get_by_text ids1 j ≡ get_by_text ids0 j = ap (lookup (λ k. bytes_eq j (string_bytes k))) e in
      h ∙ (ap (λ b. cond (bytes_eq b j) (Some k) (get_by_text ids1 j)) n ∙ ap (λ o. cond (bytes_eq i j) (Some k) o) same),
)

-- No text is in an empty index.
pub no_text : {Y S : Type 0} (ids : HashMap (String Y) BoxKey S) → ids.entries ≡ [] → (i : List ℕ) → get_by_text ids i ≡ None
no_text ids e i = ap (lookup (λ k. bytes_eq i (string_bytes k))) e

-- The same, as the code knows it.
pub grown_so : {Y S : Type 0} (a0 a1 a2 : Arena inner.Node) (root p k : BoxKey) (before : Option BoxKey) (d : Item) (ids0 ids1 : HashMap (String Y) BoxKey
    S) (i : List ℕ) (v : Option BoxKey) (ends : Option BoxKey × Option BoxKey) →
    IsConsistent a0 root ids0 → occupied a0 < 20000 → has same_key p (seen a0 root) ≡ true → IsPlaceIn same_key before (children same_key p (seen a0 root))
    → named d.id (seen a0 root) ≡ None →
    IsNear d.rect → Fits d.style → i ≡ d.id → v ≡ left_of (linked a0) ends.1 before → ends ≡ ends_of (linked a0 p) →
    Enters a0 a1 k.slot k.generation (fresh (record d { id = i }) p v before) → AddsText i k ids0 ids1 →
    Relinks a1 a2 (grafted same_key p k v before ends.0 ends.1 (linked a1)) →
    IsConsistent a2 root ids1 × GrownTree a0 a2 root p k before d × (marks a2 ≡ with_taken (marks a0) k)
grown_so a0 a1 a2 root p k before d ids0 ids1 i v ends s room m place new_id r st same_id left ends_are stored adds links =
    let s1 : Enters a0 a1 k.slot k.generation (fresh d p v before) = subst (λ j. Enters a0 a1 k.slot k.generation (fresh (record d { id = j }) p v before))
    same_id stored in
    let v2 : v ≡ left_of (linked a0) (ends_of (linked a0 p)).1 before = left ∙ ap (λ o. left_of (linked a0) o.1 before) ends_are in
    let s2 : Enters a0 a1 k.slot k.generation (fresh d p (left_of (linked a0) (ends_of (linked a0 p)).1 before) before) = subst (λ w. Enters a0 a1 k.slot
    k.generation (fresh d p w before)) v2 s1 in
    let r1 : Relinks a1 a2 (grafted same_key p k v before (ends_of (linked a0 p)).0 (ends_of (linked a0 p)).1 (linked a1)) = subst (λ o. Relinks a1 a2
    (grafted same_key p k v before o.0 o.1 (linked a1))) ends_are links in
    let r2 : Relinks a1 a2 (grafted same_key p k (left_of (linked a0) (ends_of (linked a0 p)).1 before) before (ends_of (linked a0 p)).0 (ends_of
    (linked a0 p)).1 (linked a1)) =
    subst (λ w. Relinks a1 a2 (grafted same_key p k w before (ends_of (linked a0 p)).0 (ends_of (linked a0 p)).1 (linked a1))) v2 r1 in
    let more : live a1 ≡ live a0 + 1 = live-enters a0 a1 k.slot k.generation (fresh (record d { id = i }) p v before) stored in
    let still : occupied a1 ≡ occupied a0 + 1 = occupied-enters a0 a1 k.slot k.generation (fresh (record d { id = i }) p v before) stored in
    grow_sound a0 a1 a2 root p k before d ids0 ids1 s room m place new_id r st (value-before a0 a1 k.slot k.generation (fresh (record d { id = i }) p v
    before) stored) s2 more still (subst (λ j. AddsText j k ids0 ids1) same_id adds) r2
