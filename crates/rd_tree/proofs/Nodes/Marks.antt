-- The slots of an arena without what they hold.
use Rattle.std.proofs.Common.{◌≡◌, refl, ap, ◌∙◌, sym, subst, ℕ, ◌+◌, ◌<◌, Bool, true, false, cond, List, [], ◌∷◌, length, map, count_by, inl, inr}
use Rattle.std.specs.Prelude.{Some, None, slice_index_or, nat_lt, option_map}
use Rattle.std.specs.Option.{option_map_or}
use Rattle.std.proofs.lemmas.List.{map-set, map-append, length-map}
use Rattle.std.proofs.lemmas.List.Sums.{sum_by-cons}
use Rattle.std.proofs.Math.Seq.{map-set_same}
use Rattle.std.proofs.Math.ListN.{get_or-map}
use Rattle.rd_keys.specs.Keys.{same_key}
use Rattle.rd_keys.specs.Arena.{Arena, Slot as InnerSlot, unmade, slot_at, value, occupied, is_taken, with_value, with_slot, Enters}
use Rattle.rd_keys.proofs.Keys.{same_key-sound}
use Rattle.rd_keys.proofs.Calls.{taken-live, live-with_value, value-with_value}
use Rattle.rd_tree.specs.declared.node.Node as inner
use Rattle.rd_tree.specs.Document.{BoxKey, Item, Slot, with_taken, IsNextOf}
use Rattle.rd_tree.specs.Internal.Links.{Node, edit}
use Rattle.rd_tree.specs.Internal.Works.{item_under}
use Rattle.rd_tree.specs.Internal.Linked.{mark_of, marks, plain, linked, Relinks}

count-map : {A B : Type 0} (p : B → Bool) (f : A → B) (xs : List A) → count_by p (map f xs) ≡ count_by (λ x. p (f x)) xs
count-map p f [] = refl
count-map p f (x ∷ xs) =
    let r : count_by p (map f xs) ≡ count_by (λ x. p (f x)) xs = count-map p f xs in
    let a : count_by p (f x ∷ map f xs) ≡ cond (p (f x)) 1 0 + count_by p (map f xs) = sum_by-cons (λ y. cond (p y) 1 0) (f x) (map f xs) in
    let b : count_by (λ x. p (f x)) (x ∷ xs) ≡ cond (p (f x)) 1 0 + count_by (λ x. p (f x)) xs = sum_by-cons (λ y. cond (p (f y)) 1 0) x xs in
    a ∙ (ap (λ n. cond (p (f x)) 1 0 + n) r ∙ sym b)

-- as many are taken
pub taken-marks : (a : Arena inner.Node) → count_by (λ y. y.taken) (marks a) ≡ occupied a
taken-marks a = count-map (λ y. y.taken) mark_of a.slots

-- A value that is written leaves the slots.
pub marks-with_value : (a : Arena inner.Node) (s g : ℕ) (x y : inner.Node) → value a s g ≡ Some y → marks (with_value a s x) ≡ marks a
marks-with_value a s g x y v =
    let of : Bool → Slot = λ b. record { generation = (slot_at a s).generation; taken = b } in
    let t : true ≡ is_taken (slot_at a s) = sym (taken-live a s g y v) in
    let n : InnerSlot inner.Node = record (slot_at a s) { holds = Some x } in
    map-set_same mark_of a.slots s n unmade (ap of t)

-- A key that enters takes its slot.
pub marks-enters : (old new : Arena inner.Node) (k : BoxKey) (x : inner.Node) → Enters old new k.slot k.generation x → marks new ≡ with_taken (marks old) k
marks-enters old new k x e =
    let y : InnerSlot inner.Node = record { generation = k.generation; holds = Some x; retired = false } in
    ap marks e.result ∙ at (nat_lt k.slot (length old.slots)) refl where
      at : (b : Bool) → nat_lt k.slot (length old.slots) ≡ b → map mark_of (with_slot old.slots k.slot (record {
        generation = k.generation;
        holds = Some x;
        retired = false;
      })) ≡ with_taken (marks old) k
      at true t =
          let len : nat_lt k.slot (length (marks old)) ≡ true = ap (nat_lt k.slot) (length-map old.slots mark_of) ∙ t in
          rw (t, len) (map-set mark_of old.slots k.slot (record { generation = k.generation; holds = Some x; retired = false }))
      at false t =
          let len : nat_lt k.slot (length (marks old)) ≡ false = ap (nat_lt k.slot) (length-map old.slots mark_of) ∙ t in
          rw (t, len) (map-append mark_of old.slots ((record { generation = k.generation; holds = Some x; retired = false }) ∷ []))

-- A node that is changed in place.
pub relinks_written : (a : Arena inner.Node) (k : BoxKey) (x y : inner.Node) (e : Node BoxKey Item → Node BoxKey Item) → value a k.slot k.generation
    ≡ Some y → plain x ≡ e (plain y) → Relinks a (with_value a k.slot x) (edit same_key k e (linked a))
relinks_written a k x y e v is = record {
  links = λ j. ap (option_map plain) (value-with_value a k.slot k.generation x y v j.slot j.generation) ∙ kept j (same_key k j) refl;
  same_slots = marks-with_value a k.slot k.generation x y v;
  same_live = live-with_value a k.slot k.generation x y v;
  limit = refl;
  first = refl;
} where
  kept : (j : BoxKey) (b : Bool) → same_key k j ≡ b → option_map plain (cond b (Some x) (value a j.slot j.generation)) ≡ cond b (option_map e (linked a j))
      (linked a j)
  kept j true s = ap Some is ∙ ap (option_map e) (sym (ap (option_map plain) (ap (λ i. value a i.slot i.generation) (sym (same_key-sound k j s)) ∙ v)))
  kept j false s = refl

-- No node is changed.
pub relinks_none : (a : Arena inner.Node) → Relinks a a (linked a)
relinks_none a = record { links = λ j. refl; same_slots = refl; same_live = refl; limit = refl; first = refl }

-- No node is under the key.
pub relinks_absent : (a : Arena inner.Node) (k : BoxKey) (e : Node BoxKey Item → Node BoxKey Item) → None ≡ value a k.slot k.generation
    → Relinks a a (edit same_key k e (linked a))
relinks_absent a k e v = record { links = λ j. kept j (same_key k j) refl; same_slots = refl; same_live = refl; limit = refl; first = refl } where
  kept : (j : BoxKey) (b : Bool) → same_key k j ≡ b → linked a j ≡ cond b (option_map e (linked a j)) (linked a j)
  kept j true s =
      let n : linked a j ≡ None = ap (linked a) (sym (same_key-sound k j s)) ∙ sym (ap (option_map plain) v) in
      n ∙ sym (ap (option_map e) n)
  kept j false s = refl

-- what is told of the item under a live key, and under another
pub told_there : {U : Type 0} (a : Arena inner.Node) (k : BoxKey) (y : inner.Node) (f : Item → U) (u : U) → Some y ≡ value a k.slot k.generation → f y.item
    ≡ option_map_or f (item_under (linked a k)) u
told_there a k y f u v = ap (λ o. option_map_or f (item_under (option_map plain o)) u) v

pub told_nowhere : {U : Type 0} (a : Arena inner.Node) (k : BoxKey) (f : Item → U) (u : U) → None ≡ value a k.slot k.generation → u
    ≡ option_map_or f (item_under (linked a k)) u
told_nowhere a k f u v = ap (λ o. option_map_or f (item_under (option_map plain o)) u) v

-- A key that enters is that of a free slot, or the first of the next one.
pub is_next : (old new : Arena inner.Node) (k : BoxKey) (x : inner.Node) (slots : List Slot) → slots ≡ marks old → old.first ≡ 0 → Enters old new k.slot
    k.generation x → IsNextOf slots k
is_next old new k x slots same zero_first e = elim e.place [
  | inl v ↦ inl (
    subst (λ n. k.slot < n) (sym len) v.0,
    ap (λ l. slice_index_or l k.slot (record { generation = 0; taken = false })) same ∙ (get_or-map mark_of old.slots k.slot unmade ∙ ap mark_of v.1),
  )
  | inr v ↦ inr (v.0 ∙ sym len, v.1 ∙ zero_first)
] where
  len : length slots ≡ length old.slots
  len = ap length same ∙ length-map old.slots mark_of
