-- Trees stay well formed where they are changed.
use Rattle.std.proofs.Common.{◌≡◌, refl, ap, ◌∙◌, sym, subst, ℕ, ◌<◌, Bool, true, false, ◌||◌, cond, arith, inl, inr, List, [], ◌∷◌, ◌++◌, length, Option, Some, None}
use Rattle.std.proofs.lemmas.List.{length-set, get_or-set_other}
use Rattle.rd_keys.specs.Keys.{BoxKey, same_key}
use Rattle.rd_keys.proofs.Keys.{same_key-sound, same_key-refl}
use Rattle.rd_tree.specs.declared.node.Item.{Item}
use Rattle.rd_tree.specs.Document.{Document, BoxForest, Slot, slot_of, with_left, with_all_left, with_taken, with_child, IsNext, IsKeyed, contains}
use Rattle.rd_tree.specs.Forest.{empty, tree, keys, has, children, insert_among, insert_before, without_branch, branch, in_subtree}
use Rattle.rd_tree.specs.Changes.{Change, insertion, removal, moving, styling, placing, shifting, scrolling, after, restyle, with_rect, with_scroll, shift_item}
use Rattle.rd_tree.specs.Touching.{edited, touch}
use Rattle.rd_tree.proofs.Linking.Standing.{cases, either, from_left, from_right, has-join, out_of_children}
use Rattle.rd_tree.proofs.Forests.Under.{out_of_under}
use Rattle.rd_tree.proofs.Forests.Without.{out_of_without, in_without, stays_out, apart_without}
use Rattle.rd_tree.proofs.Changing.NextKeys.{next-absent}
use Rattle.rd_tree.specs.Document.{named}
use Rattle.rd_edits.specs.declared.edit.Edit.{Edit}
use Rattle.rd_edits.specs.declared.edit.Edit.TheVariants.{Insert, Remove, Move, SetStyle, SetRect, Shift, Scroll}
use Rattle.rd_edits.specs.declared.fault.EditFault.{EditFault}
use Rattle.rd_edits.specs.declared.fault.EditFault.TheVariants.{UnknownId, UnknownParent}
use Rattle.rd_edits.specs.Edited.{IsEdited, IsNamed}
use Rattle.rd_edits.specs.Refusals.{refusal_of, is_unknown}
use Rattle.std.specs.Prelude.{is_none}
use Rattle.rd_scene.specs.Internal.WellFormed.{IsWellFormed}
use Rattle.rd_scene.proofs.Apart.{child_apart, elsewhere_apart, out_of_branch}
use Rattle.rd_scene.proofs.Keyed.{own_slot, other_slot, held, each_well}

-- what is there, where its want would be a want of the other
forced : (b c : Bool) → (b ≡ false → c ≡ false) → c ≡ true → b ≡ true
forced true c f h = refl
forced false c f h = absurd (let no : false ≡ true = sym (f refl) ∙ h in cc)

out_of_before : (j i : BoxKey) (g f : BoxForest) → has same_key j g ≡ false → has same_key j f ≡ false → has same_key j (insert_before same_key i g f) ≡ false
out_of_before j i g empty n m = n
out_of_before j i g (tree k d below rest) n m =
    let s : (same_key j k ≡ false) × ((has same_key j below || has same_key j rest) ≡ false) = either (same_key j k) (has same_key j below || has same_key j rest) m in
    let t : (has same_key j below ≡ false) × (has same_key j rest ≡ false) = either (has same_key j below) (has same_key j rest) s.1 in
    elim (cases (same_key i k)) [
      | inl e ↦ rw e (has-join same_key same_key-sound same_key-refl j g (tree k d below rest) ∙ rw (n, s.0, t.0, t.1) refl)
      | inr e ↦ rw (e, s.0, t.0, out_of_before j i g rest n t.1) refl
    ]

out_of_among : (j : BoxKey) (o : Option BoxKey) (g f : BoxForest) → has same_key j g ≡ false → has same_key j f ≡ false → has same_key j (insert_among same_key o g f) ≡ false
out_of_among j None g f n m = has-join same_key same_key-sound same_key-refl j f g ∙ rw (m, n) refl
out_of_among j (Some i) g f n m = out_of_before j i g f n m

-- what is below a new child's place is old, or the child
child_or_old : (j p k : BoxKey) (before : Option BoxKey) (d : Item) (f : BoxForest) → same_key j k ≡ false → has same_key j (with_child p before k d f) ≡ true → has same_key j f ≡ true
child_or_old j p k before d f n h =
    forced (has same_key j f) _ (λ o. out_of_under same_key same_key-sound same_key-refl j p _ f o
    (out_of_among j before (tree k d empty empty) (children same_key p f) (rw n refl) (out_of_children same_key same_key-sound same_key-refl j p f o))) h

in_branch : (j k : BoxKey) (f : BoxForest) → has same_key j (branch same_key k f) ≡ true → has same_key j f ≡ true
in_branch j k empty h = h
in_branch j k (tree i d low rest) h =
    elim (cases (same_key k i)) [
      | inl e ↦ first (rw e at h)
      | inr e ↦ elim (cases (has same_key k low)) [
        | inl u ↦ from_right (same_key j i) (has same_key j low || has same_key j rest) (from_left (has same_key j low) (has same_key j rest) (in_branch j k low (rw (e, u) at h)))
        | inr u ↦ from_right (same_key j i) (has same_key j low || has same_key j rest) (from_right (has same_key j low) (has same_key j rest) (in_branch j k rest (rw (e, u) at h)))
      ]
    ] where
      by : (a b c : Bool) → (a || (b || false)) ≡ true → (a || (b || c)) ≡ true
      by true b c g = refl
      by false true c g = refl
      by false false c g = absurd (let no : false ≡ true = g in cc)

      first : (same_key j i || (has same_key j low || false)) ≡ true → (same_key j i || (has same_key j low || has same_key j rest)) ≡ true
      first g = by (same_key j i) (has same_key j low) (has same_key j rest) g

-- ---- slots that are left

left_append : (slots : List Slot) (a b : List BoxKey) → with_all_left slots (a ++ b) ≡ with_all_left (with_all_left slots a) b
left_append slots [] b = refl
left_append slots (k ∷ a) b = left_append (with_left slots k) a b

-- The slot of a key is as it was, and no slot is gone.
record Stays (old new : List Slot) (j : BoxKey) : Type 0 where
  sizes : length new ≡ length old
  slot : slot_of new j ≡ slot_of old j

then : (a b c : List Slot) (j : BoxKey) → Stays a b j → Stays b c j → Stays a c j
then a b c j p q = record { sizes = q.sizes ∙ p.sizes; slot = q.slot ∙ p.slot }

others_stay : (slots : List Slot) (j : BoxKey) (f : BoxForest) → ((i : BoxKey) → has same_key i f ≡ true → j.slot ≡ i.slot → ⊥) → Stays slots (with_all_left slots (keys f)) j
others_stay slots j empty apart = record { sizes = refl; slot = refl }
others_stay slots j (tree k d below rest) apart =
    let here : j.slot ≡ k.slot → ⊥ = apart k (from_left (same_key k k) _ (same_key-refl k)) in
    let s1 : List Slot = with_left slots k in
    let one : Stays slots s1 j = record { sizes = length-set slots k.slot _; slot = get_or-set_other slots k.slot j.slot _ (record { generation = 0; taken = false }) here } in
    let s2 : List Slot = with_all_left s1 (keys below) in
    let two : Stays s1 s2 j = others_stay s1 j below (λ i u. apart i (from_right (same_key i k) (has same_key i below || has same_key i rest) (from_left (has same_key i below) (has same_key i rest) u))) in
    let three : Stays s2 (with_all_left s2 (keys rest)) j = others_stay s2 j rest (λ i u. apart i (from_right (same_key i k) (has same_key i below || has same_key i rest) (from_right (has same_key i below) (has same_key i rest) u))) in
    subst (λ (l : List Slot). Stays slots l j) (sym (left_append s1 (keys below) (keys rest))) (then slots s1 _ j one (then s1 s2 _ j two three))

-- two boxes have two slots
two_slots : (t : Document) (i j : BoxKey) → IsKeyed t → has same_key i t.boxes ≡ true → has same_key j t.boxes ≡ true → same_key j i ≡ false → j.slot ≡ i.slot → ⊥
two_slots t i j keyed a b n e =
    let same : slot_of t.slots j ≡ slot_of t.slots i = ap (λ (s : ℕ). slot_of t.slots (record i { slot = s })) e in
    let g : j.generation ≡ i.generation = ap (λ (y : Slot). y.generation) (sym (keyed j b).1 ∙ (same ∙ (keyed i a).1)) in
    let y : same_key j i ≡ true = rw (e, g) (same_key-refl i) in
    let no : true ≡ false = sym y ∙ n in
    cc

removed_keyed : (k : BoxKey) (t : Document) → IsWellFormed t → IsKeyed (after (removal k) t)
removed_keyed k t w = λ j m.
    let old : has same_key j t.boxes ≡ true = in_without same_key same_key-sound same_key-refl j k t.boxes m in
    let s = stays_out same_key same_key-sound same_key-refl j k t.boxes w.apart m in
    let out : has same_key j (branch same_key k t.boxes) ≡ false = out_of_branch j k t.boxes s.0 s.1 in
    let stay : Stays t.slots (with_all_left t.slots (keys (branch same_key k t.boxes))) j =
    others_stay t.slots j (branch same_key k t.boxes) (λ i u. two_slots t i j w.keyed (in_branch i k t.boxes u) old (away j i u out)) in
    let l : j.slot < length t.slots = (w.keyed j old).0 in
    let sizes : length (with_all_left t.slots (keys (branch same_key k t.boxes))) ≡ length t.slots = stay.sizes in
    (omega (arith, l, sizes), stay.slot ∙ (w.keyed j old).1)
  where
    away : (j i : BoxKey) → has same_key i (branch same_key k t.boxes) ≡ true → has same_key j (branch same_key k t.boxes) ≡ false → same_key j i ≡ false
    away j i u o = elim (cases (same_key j i)) [
      | inl e ↦ absurd (let no : true ≡ false = sym u ∙ (ap (λ x. has same_key x (branch same_key k t.boxes)) (sym (same_key-sound j i e)) ∙ o) in cc)
      | inr e ↦ e
    ]

-- ---- changes

-- What a change asks of the tree: a new box has the next key of a slot.
abbrev pub IsPossible : Change → Document → Type 0
IsPossible (insertion p before k d) t = IsNext t k
IsPossible _ t = Unit {0}

after_well : (c : Change) (t : Document) → IsPossible c t → IsWellFormed t → IsWellFormed (after c t)
after_well (insertion p before k d) t n w =
    let out : contains t k ≡ false = next-absent t k w.keyed n in record {
      apart = child_apart k d p before t.boxes w.apart out;
      keyed = λ j m. elim (cases (same_key j k)) [
        | inl s ↦
            let e : k ≡ j = sym (same_key-sound j k s) in
            subst (λ (i : BoxKey). (i.slot < length (with_taken t.slots k)) × (slot_of (with_taken t.slots k) i ≡ held i)) e (own_slot t.slots k n)
        | inr s ↦ let old : has same_key j t.boxes ≡ true = child_or_old j p k before d t.boxes s m in other_slot t.slots j k n (w.keyed j old).0 (w.keyed j old).1
      ];
    }
after_well (removal k) t n w = record { apart = apart_without same_key same_key-sound same_key-refl k t.boxes w.apart; keyed = removed_keyed k t w }
after_well (moving k p before) t n w = record {
  apart = elsewhere_apart k p before t.boxes w.apart;
  keyed = λ j m. w.keyed j (forced (has same_key j t.boxes) _ (λ o.
      let g : BoxForest = without_branch same_key k t.boxes in
      let a : has same_key j g ≡ false = out_of_without same_key same_key-sound same_key-refl j k t.boxes o in
      let b : has same_key j (branch same_key k t.boxes) ≡ false = gone j o in
      out_of_under same_key same_key-sound same_key-refl j p _ g a
      (out_of_among j before (branch same_key k t.boxes) (children same_key p g) b (out_of_children same_key same_key-sound same_key-refl j p g a))) m);
}
  where
    gone : (j : BoxKey) → has same_key j t.boxes ≡ false → has same_key j (branch same_key k t.boxes) ≡ false
    gone j o = elim (cases (has same_key j (branch same_key k t.boxes))) [
      | inl u ↦ absurd (let no : true ≡ false = sym (in_branch j k t.boxes u) ∙ o in cc)
      | inr u ↦ u
    ]
after_well (styling k c) t n w = each_well (λ j. same_key j k) (restyle c) t w
after_well (placing k r) t n w = each_well (λ j. same_key j k) (with_rect r) t w
after_well (shifting k dx dy) t n w = each_well (λ j. in_subtree same_key j k t.boxes) (shift_item dx dy) t w
after_well (scrolling k v) t n w = each_well (λ j. same_key j k) (with_scroll v) t w

pub edited_well : (c : Change) (t : Document) → IsPossible c t → IsWellFormed t → IsWellFormed (edited c t)
edited_well c t n w = each_well _ touch (after c t) (after_well c t n w)

-- ---- edits

pub edited_canvas : (c : Change) (t : Document) → (edited c t).canvas ≡ t.canvas
edited_canvas (insertion p before k d) t = refl
edited_canvas (removal k) t = refl
edited_canvas (moving k p before) t = refl
edited_canvas (styling k c) t = refl
edited_canvas (placing k r) t = refl
edited_canvas (shifting k dx dy) t = refl
edited_canvas (scrolling k v) t = refl

possible : (e : Edit) (t : Document) (c : Change) → IsNamed e t c → IsPossible c t
possible (Insert i parent before rect style) t c h = subst (λ (x : Change). IsPossible x t) (sym h.4) h.3
possible (Remove i) t c h = subst (λ (x : Change). IsPossible x t) (sym h.2) tt
possible (Move i parent before) t c h = subst (λ (x : Change). IsPossible x t) (sym h.4) tt
possible (SetStyle i change) t c h = subst (λ (x : Change). IsPossible x t) (sym h.2) tt
possible (SetRect i rect) t c h = subst (λ (x : Change). IsPossible x t) (sym h.2) tt
possible (Shift i dx dy) t c h = subst (λ (x : Change). IsPossible x t) (sym h.2) tt
possible (Scroll i x y) t c h = subst (λ (z : Change). IsPossible z t) (sym h.2) tt

-- a tree stays well formed under an edit, on the same canvas
pub edit_well : (e : Edit) (old new : Document) → IsEdited e old new → IsWellFormed old → IsWellFormed new
edit_well e old new h w = subst IsWellFormed (sym h.2) (edited_well (h.0) old (possible e old (h.0) h.1) w)

pub edit_canvas : (e : Edit) (old new : Document) → IsEdited e old new → new.canvas ≡ old.canvas
edit_canvas e old new h = ap (λ (t : Document). t.canvas) h.2 ∙ edited_canvas (h.0) old

off : (b : Bool) (f : EditFault) (more : Option EditFault) → cond b (Some f) more ≡ None → (b ≡ false) × (more ≡ None)
off true f more h = absurd (let no : Some f ≡ None = h in cc)
off false f more h = (refl, h)

some_of : (o : Option BoxKey) → is_none o ≡ false → (k : BoxKey) × (o ≡ Some k)
some_of None h = absurd (let no : true ≡ false = h in cc)
some_of (Some k) h = (k, refl)

-- the next key of a slot that is not made yet
abbrev fresh : Document → BoxKey
fresh t = record t.root { slot = length t.slots; generation = 0 }

-- an edit that no test refuses can be done
pub edit_goes : (e : Edit) (t : Document) → refusal_of t e ≡ None → (next : Document) × IsEdited e t next
edit_goes (Insert i parent before rect style) t h =
    let p = some_of (named parent t.boxes) (off (is_unknown parent t) UnknownParent _ h).0 in
    (_, (_, (p.0, fresh t, p.1, inr (refl, refl), refl), refl))
edit_goes (Remove i) t h =
    let k = some_of (named i t.boxes) (off (is_unknown i t) UnknownId _ h).0 in
    (_, (_, (k.0, k.1, refl), refl))
edit_goes (Move i parent before) t h =
    let k = some_of (named i t.boxes) (off (is_unknown i t) UnknownId _ h).0 in
    let p = some_of (named parent t.boxes) (off (is_unknown parent t) UnknownParent _ (off (is_unknown i t) UnknownId _ h).1).0 in
    (_, (_, (k.0, p.0, k.1, p.1, refl), refl))
edit_goes (SetStyle i change) t h =
    let k = some_of (named i t.boxes) (off (is_unknown i t) UnknownId _ h).0 in
    (_, (_, (k.0, k.1, refl), refl))
edit_goes (SetRect i rect) t h =
    let k = some_of (named i t.boxes) (off (is_unknown i t) UnknownId _ h).0 in
    (_, (_, (k.0, k.1, refl), refl))
edit_goes (Shift i dx dy) t h =
    let k = some_of (named i t.boxes) (off (is_unknown i t) UnknownId _ h).0 in
    (_, (_, (k.0, k.1, refl), refl))
edit_goes (Scroll i x y) t h =
    let k = some_of (named i t.boxes) (off (is_unknown i t) UnknownId _ h).0 in
    (_, (_, (k.0, k.1, refl), refl))
