-- Trees stay well formed where a box is added, and the slots of a planted tree.
use Rattle.std.proofs.Common.{◌≡◌, ◌≢◌, refl, ap, ◌∙◌, sym, subst, ℕ, ◌+◌, ◌<◌, Bool, true, false, ◌||◌, arith, inl, inr, List, [], ◌∷◌, ◌++◌, length, None, replicate}
use Rattle.std.specs.Prelude.{nat_lt}
use Rattle.std.proofs.lemmas.Grind.{common_steps}
use Rattle.std.proofs.lemmas.List.{get_or-replicate}
use Rattle.rd_keys.specs.Keys.{BoxKey, same_key}
use Rattle.rd_keys.proofs.Keys.{same_key-sound}
use Rattle.rd_tree.specs.declared.node.Item.{Item}
use Rattle.rd_tree.specs.Document.{Document, BoxForest, Slot, slot_of, with_taken, IsNext, IsNextOf, IsKeyed, contains}
use Rattle.rd_tree.specs.Forest.{has, map_where, IsApart}
use Rattle.rd_tree.specs.Changes.{Change, insertion, after}
use Rattle.rd_tree.specs.Touching.{touch, reached_by, regrouped_by, with_marks}
use Rattle.rd_tree.proofs.Forests.Under.{which}
use Rattle.rd_tree.proofs.Changing.NextKeys.{next-absent}
use Rattle.rd_tree.proofs.Changing.Effects.{reached-insertion}
use Rattle.rd_tree.proofs.Contexts.Marks.{marks_then}
use Rattle.rd_tree.proofs.Nodes.Each.{apart_each, has-each}
use Rattle.rd_scene.specs.Internal.WellFormed.{IsWellFormed}
use Rattle.rd_scene.specs.declared.script.SceneBox.{SceneBox}
use Rattle.rd_scene.specs.Planting.{IsAlone, Adds, AddsAll, Grows, Plants, item_of}
use Rattle.rd_scene.specs.Scripts.{Script}
use Rattle.rd_scene.proofs.Growing.{grow, grow_is, has-grow}
use Rattle.rd_scene.proofs.Apart.{child_apart}
use Rattle.rd_scene.proofs.Plants.{parent_there}

abbrev free : Slot
free = record { generation = 0; taken = false }

abbrev pub held : BoxKey → Slot
held k = record { generation = k.generation; taken = true }

less : (m n : ℕ) → m < n → nat_lt m n ≡ true
less m n h = grind arith

not_less : (m n : ℕ) → m ≡ n → nat_lt m n ≡ false
not_less m n h = grind arith

-- the slot of the new key is held
pub own_slot : (slots : List Slot) (k : BoxKey) → IsNextOf slots k → (k.slot < length (with_taken slots k)) × (slot_of (with_taken slots k) k ≡ held k)
own_slot slots k (inl n) = rw (less k.slot (length slots) n.0) (grind (arith, common_steps), grind (arith, common_steps))
own_slot slots k (inr n) = rw (not_less k.slot (length slots) n.0) (grind (arith, common_steps), grind (arith, common_steps))

-- any other slot that was held stays
pub other_slot : (slots : List Slot) (j k : BoxKey) → IsNextOf slots k → j.slot < length slots → slot_of slots j ≡ held j → (j.slot < length (with_taken slots k)) × (slot_of (with_taken slots k) j ≡ held j)
other_slot slots j k (inr n) l e = rw (not_less k.slot (length slots) n.0) (grind (arith, common_steps), grind (arith, common_steps))
other_slot slots j k (inl n) l e =
    let ne : j.slot ≢ k.slot = λ same.
    let a : slot_of slots j ≡ slot_of slots k = ap (λ (i : ℕ). slot_of slots (record k { slot = i })) same in
    let t : true ≡ false = sym (ap (λ (y : Slot). y.taken) e) ∙ ap (λ (y : Slot). y.taken) a ∙ ap (λ (y : Slot). y.taken) n.1 in cc in
    rw (less k.slot (length slots) n.0) (grind (arith, common_steps), grind (arith, common_steps))

keyed_grown : (old : Document) (p k : BoxKey) (d : Item) → IsKeyed old → IsNext old k → has same_key p old.boxes ≡ true
    → IsKeyed (record old { boxes = grow p k d old.boxes; slots = with_taken old.slots k })
keyed_grown old p k d keyed next m = λ j h.
    elim (which (has same_key j old.boxes) (same_key j k) (sym (has-grow j p k d old.boxes m) ∙ h)) [
      | inl t ↦ other_slot old.slots j k next (keyed j t).0 (keyed j t).1
      | inr s ↦
          let e : k ≡ j = sym (same_key-sound j k s) in
          subst (λ (i : BoxKey). (i.slot < length (with_taken old.slots k)) × (slot_of (with_taken old.slots k) i ≡ held i)) e (own_slot old.slots k next)
    ]

-- which boxes are regrouped where a box is added
abbrev pub regrouped : (b : SceneBox) (old new : Document) → Adds b old new → BoxKey → Bool
regrouped b old new a = regrouped_by (insertion a.parent None a.key (item_of b)) old

-- the tree with a box more, and these marked
pub added_is : (b : SceneBox) (old new : Document) (w : IsWellFormed old) (a : Adds b old new)
    → new ≡ with_marks (regrouped b old new a) (record old { boxes = grow a.parent a.key (touch (item_of b)) old.boxes; slots = with_taken old.slots a.key })
added_is b old new w a =
    let c : Change = insertion a.parent None a.key (item_of b) in
    let out : contains old a.key ≡ false = next-absent old a.key w.keyed a.next in
    let there : has same_key a.parent old.boxes ≡ true = parent_there old.boxes b a.parent a.parent_is in
    a.new_is ∙ sym (marks_then (regrouped_by c old) (reached_by c old) (after c old))
    ∙ ap (with_marks (regrouped_by c old)) (reached-insertion a.parent None a.key (item_of b) old out
    ∙ ap (λ f. record old { boxes = f; slots = with_taken old.slots a.key }) (grow_is a.parent a.key (touch (item_of b)) old.boxes w.apart there))

-- a change of items leaves a tree well formed
pub each_well : (q : BoxKey → Bool) (g : Item → Item) (t : Document) → IsWellFormed t → IsWellFormed (record t { boxes = map_where q g t.boxes })
each_well q g t w = record {
  apart = apart_each q g same_key t.boxes w.apart;
  keyed = λ j m. w.keyed j (sym (has-each q g same_key j t.boxes) ∙ m);
}

-- it stays well formed
pub added_well : (b : SceneBox) (old new : Document) → IsWellFormed old → Adds b old new → IsWellFormed new
added_well b old new w a =
    let out : contains old a.key ≡ false = next-absent old a.key w.keyed a.next in
    let there : has same_key a.parent old.boxes ≡ true = parent_there old.boxes b a.parent a.parent_is in
    let apart : IsApart same_key (grow a.parent a.key (touch (item_of b)) old.boxes) =
    subst (IsApart same_key) (grow_is a.parent a.key (touch (item_of b)) old.boxes w.apart there) (child_apart a.key (touch (item_of b)) a.parent None old.boxes w.apart out) in
    let grown : Document = record old { boxes = grow a.parent a.key (touch (item_of b)) old.boxes; slots = with_taken old.slots a.key } in
    subst IsWellFormed (sym (added_is b old new w a)) (each_well (regrouped b old new a) touch grown
    (record { apart = apart; keyed = keyed_grown old a.parent a.key (touch (item_of b)) w.keyed a.next there }))

all_added_well : (bs : List SceneBox) (old new : Document) → IsWellFormed old → AddsAll bs old new → IsWellFormed new
all_added_well [] old new w h = subst IsWellFormed (sym h) w
all_added_well (b ∷ bs) old new w h = all_added_well bs (h.0) new (added_well b old (h.0) w h.1) h.2

pub alone_well : (b : SceneBox) (t : Document) → IsAlone b t → IsWellFormed t
alone_well b t h = record {
  apart = subst (IsApart same_key) (sym h.boxes) (refl, refl, (λ j e. refl), tt, tt);
  keyed = λ j m.
      let at : (same_key j t.root || (false || false)) ≡ true = subst (λ (f : BoxForest). has same_key j f ≡ true) h.boxes m in
      let same : same_key j t.root ≡ true = bare (same_key j t.root) at in
      let e : t.root ≡ j = sym (same_key-sound j t.root same) in
      subst (λ (s : List Slot). (j.slot < length s) × (slot_of s j ≡ held j)) (sym h.slots)
      (subst (λ (i : BoxKey). (i.slot < length (with_taken [] t.root)) × (slot_of (with_taken [] t.root) i ≡ held i)) e (own_slot [] t.root h.first));
}
  where
    bare : (b : Bool) → (b || (false || false)) ≡ true → b ≡ true
    bare true h = refl
    bare false h = h

-- every tree that a script plants is well formed
pub planted_well : (s : Script) (t : Document) → Plants s t → IsWellFormed t
planted_well s t h = by s.boxes h.2
  where
    by : (bs : List SceneBox) → Grows bs (h.0) t → IsWellFormed t
    by [] g = absurd g
    by (b ∷ bs) g = all_added_well bs (h.0) t (alone_well b (h.0) g.0) g.1

-- ---- every slot made is held, at generation 0

abbrev first_held : Slot
first_held = record { generation = 0; taken = true }

one_more : (n : ℕ) (k : BoxKey) → IsNextOf (replicate n first_held) k → with_taken (replicate n first_held) k ≡ replicate (n + 1) first_held
one_more n k (inl h) =
    let e : slot_of (replicate n first_held) k ≡ first_held = get_or-replicate n k.slot first_held free (grind (arith, common_steps)) in
    let t : true ≡ false = sym (ap (λ (y : Slot). y.taken) e) ∙ ap (λ (y : Slot). y.taken) h.1 in
    absurd (cc)
one_more n k (inr h) = rw (not_less k.slot (length (replicate n first_held)) h.0, h.1) (sym (replicate_last n first_held))
  where
    replicate_last : (m : ℕ) (y : Slot) → replicate (m + 1) y ≡ replicate m y ++ y ∷ []
    replicate_last m y = grind (arith, common_steps)

slots_added : (bs : List SceneBox) (n : ℕ) (old new : Document) → IsWellFormed old → old.slots ≡ replicate n first_held → AddsAll bs old new → new.slots ≡ replicate (length bs + n) first_held
slots_added [] n old new w e h = ap (λ (t : Document). t.slots) h ∙ e ∙ ap (λ m. replicate m first_held) (let q : n ≡ 0 + n = omega arith in q)
slots_added (b ∷ bs) n old new w e h =
    let a = h.1 in
    let next : IsNextOf (replicate n first_held) a.key = subst (λ s. IsNextOf s a.key) e a.next in
    let slots : (h.0).slots ≡ replicate (n + 1) first_held = ap (λ (t : Document). t.slots) (added_is b old (h.0) w a) ∙ ap (λ s. with_taken s a.key) e ∙ one_more n a.key next in
    slots_added bs (n + 1) (h.0) new (added_well b old (h.0) w a) slots h.2 ∙ ap (λ m. replicate m first_held) (let q : length bs + (n + 1) ≡ length (b ∷ bs) + n = omega arith in q)

pub planted_slots : (s : Script) (t : Document) → Plants s t → t.slots ≡ replicate (length s.boxes) first_held
planted_slots s t h = by s.boxes h.2
  where
    by : (bs : List SceneBox) → Grows bs (h.0) t → t.slots ≡ replicate (length bs) first_held
    by [] g = absurd g
    by (b ∷ bs) g =
        let one : (h.0).slots ≡ replicate 1 first_held = g.0.slots ∙ one_more 0 (h.0).root g.0.first in
        slots_added bs 1 (h.0) t (alone_well b (h.0) g.0) one g.1 ∙ ap (λ m. replicate m first_held) (let q : length bs + 1 ≡ length (b ∷ bs) = omega arith in q)
