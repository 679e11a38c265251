-- Each taken slot holds a box, where a tree changes and no slot gives its last key.
use Rattle.std.proofs.Common.{◌≡◌, refl, ap, ◌∙◌, sym, subst, ℕ, ◌+◌, ◌<◌, ◌≤◌, Bool, true, false, ◌||◌, cond, arith, inl, inr, List, ◌∷◌, ◌++◌, length, All, Option, Some, None, []}
use Rattle.std.specs.Prelude.{◌==◌, nat_lt}
use Rattle.std.proofs.lemmas.List.Elements.{All-nil, All-cons, All-head, All-tail, All-append, All-push, All-set, All-weaker}
use Rattle.rd_keys.specs.Keys.{BoxKey, same_key}
use Rattle.rd_keys.proofs.Keys.{same_key-sound, same_key-refl}
use Rattle.rd_tree.specs.Forest.{Forest, empty, tree, keys, size, has, children, with_children, insert_before, insert_among, without_branch, branch, in_subtree, IsApart}
use Rattle.rd_tree.specs.Document.{Document, BoxForest, Slot, taken, slot_of, with_taken, with_left, with_all_left, contains, IsNext, IsNextOf}
use Rattle.rd_tree.specs.Changes.{Change, insertion, removal, moving, styling, placing, shifting, scrolling, after, put_elsewhere, restyle, with_rect, with_scroll, shift_item}
use Rattle.rd_tree.specs.Touching.{edited, touch, touched_by}
use Rattle.rd_tree.proofs.Linking.Standing.{cases, never, either, from_left, from_right, differs_back, out_of_children}
use Rattle.rd_tree.proofs.Linking.Cutting.{no_without}
use Rattle.rd_tree.proofs.Forests.Under.{size-join, size-with_children}
use Rattle.rd_tree.proofs.Forests.Without.{apart_without, stays}
use Rattle.rd_tree.proofs.Nodes.Each.{size-each}
use Rattle.rd_tree.proofs.Nodes.Naming.{named_there}
use Rattle.rd_tree.proofs.Changing.NextKeys.{taken-next}
use Rattle.rd_tree.proofs.Changing.LeftKeys.{taken-removed}
use Rattle.rd_edits.specs.declared.edit.Edit.{Edit}
use Rattle.rd_edits.specs.declared.edit.Edit.TheVariants.{Insert, Remove, Move, SetStyle, SetRect, Shift, Scroll}
use Rattle.rd_edits.specs.declared.fault.EditFault.{EditFault}
use Rattle.rd_edits.specs.declared.fault.EditFault.TheVariants.{UnknownId, UnknownParent, IsRoot, IntoItself}
use Rattle.rd_edits.specs.Edited.{IsEdited, IsNamed}
use Rattle.rd_edits.specs.Refusals.{refusal_of, is_unknown, is_one, is_pair, is_root}
use Rattle.rd_scene.specs.Internal.WellFormed.{IsWellFormed}
use Rattle.rd_scene.proofs.Apart.{out_of_branch}
use Rattle.rd_scene.proofs.Changing.{edit_well}

-- ---- sizes

size-before : {K D : Type 0} (same : K → K → Bool) (j : K) (g f : Forest K D) → size (insert_before same j g f) ≡ size f + size g
size-before same j g empty = omega arith
size-before same j g (tree k d below rest) =
    elim (cases (same j k)) [
      | inl e ↦ rw (e, size-join g (tree k d below rest)) (omega arith)
      | inr e ↦ rw e (omega (arith, size-before same j g rest))
    ]

size-among : {K D : Type 0} (same : K → K → Bool) (o : Option K) (g f : Forest K D) → size (insert_among same o g f) ≡ size f + size g
size-among same None g f = size-join f g
size-among same (Some j) g f = size-before same j g f

-- with others put among the children of a box
size-put : (p : BoxKey) (before : Option BoxKey) (g f : BoxForest) → IsApart same_key f → has same_key p f ≡ true
    → size (with_children same_key p (insert_among same_key before g (children same_key p f)) f) ≡ size f + size g
size-put p before g f a m =
    let c : BoxForest = children same_key p f in
    let h : BoxForest = insert_among same_key before g c in
    let s : size (with_children same_key p h f) + size c ≡ size f + size h = size-with_children same_key same_key-sound same_key-refl p h f a m in
    let t : size h ≡ size c + size g = size-among same_key before g c in
    omega (arith, s, t)

-- a box with all below it, and what is left
size-cut : (k : BoxKey) (f : BoxForest) → IsApart same_key f → has same_key k f ≡ true
    → size (without_branch same_key k f) + size (branch same_key k f) ≡ size f
size-cut k empty a m = absurd (never false m refl)
size-cut k (tree i d below rest) a m =
    elim (cases (same_key k i)) [
      | inl e ↦ rw e (omega arith)
      | inr e ↦ elim (cases (has same_key k below)) [
        | inl u ↦ rw (e, u, no_without same_key same_key-sound same_key-refl k rest (a.2 k u)) (omega (arith, size-cut k below a.3 u))
        | inr u ↦ rw (e, u, no_without same_key same_key-sound same_key-refl k below u) (omega (arith, size-cut k rest a.4 (rw (e, u) at m)))
      ]
    ]

-- ---- generations

-- No slot is past the generation n.
abbrev pub IsYoung : ℕ → List Slot → Type 0
IsYoung n slots = All (λ y. y.generation ≤ n) slots

before_end : (m n : ℕ) → m < n → nat_lt m n ≡ true
before_end m n h = grind arith

at_end : (m n : ℕ) → m ≡ n → nat_lt m n ≡ false
at_end m n h = grind arith

pub young_taken : (n : ℕ) (slots : List Slot) (k : BoxKey) → IsNextOf slots k → IsYoung n slots → IsYoung n (with_taken slots k)
young_taken n slots k (inl v) young =
    let y : Slot = record { generation = k.generation; taken = true } in
    let l : (slot_of slots k).generation ≤ n = young k.slot (record { generation = 0; taken = false }) v.0 in
    let e : (slot_of slots k).generation ≡ k.generation = ap (λ (z : Slot). z.generation) v.1 in
    rw (before_end k.slot (length slots) v.0) (All-set (λ (z : Slot). z.generation ≤ n) slots k.slot y (omega (arith, l, e)) young)
young_taken n slots k (inr v) young =
    let y : Slot = record { generation = k.generation; taken = true } in
    let g : k.generation ≡ 0 = v.1 in
    rw (at_end k.slot (length slots) v.0) (All-push (λ (z : Slot). z.generation ≤ n) slots y young (omega (arith, g)))

young_left : (n : ℕ) (slots : List Slot) (k : BoxKey) → k.generation ≤ n → IsYoung (n + 1) slots → IsYoung (n + 1) (with_left slots k)
young_left n slots k l young =
    let last : Bool = k.generation == 4294967295 in
    All-set (λ (z : Slot). z.generation ≤ n + 1) slots k.slot (left last) (by last) young
  where
    left : Bool → Slot
    left b = cond b (record { generation = k.generation; taken = true }) (record { generation = k.generation + 1; taken = false })

    by : (b : Bool) → (left b).generation ≤ n + 1
    by true = omega (arith, l)
    by false = omega (arith, l)

young_all_left : (n : ℕ) (slots : List Slot) (ks : List BoxKey) → All (λ k. k.generation ≤ n) ks → IsYoung (n + 1) slots
    → IsYoung (n + 1) (with_all_left slots ks)
young_all_left n slots [] l young = young
young_all_left n slots (k ∷ ks) l young =
    let P : BoxKey → Type 0 = λ j. j.generation ≤ n in
    young_all_left n (with_left slots k) ks (All-tail P k ks l) (young_left n slots k (All-head P k ks l) young)

young_keys : (n : ℕ) (f : BoxForest) → ((j : BoxKey) → has same_key j f ≡ true → j.generation ≤ n) → All (λ k. k.generation ≤ n) (keys f)
young_keys n empty h = All-nil (λ k. k.generation ≤ n)
young_keys n (tree k d below rest) h =
    let P : BoxKey → Type 0 = λ j. j.generation ≤ n in
    let here : k.generation ≤ n = h k (from_left (same_key k k) (has same_key k below || has same_key k rest) (same_key-refl k)) in
    let under : (j : BoxKey) → (has same_key j below || has same_key j rest) ≡ true → j.generation ≤ n =
    λ j u. h j (from_right (same_key j k) (has same_key j below || has same_key j rest) u) in
    let low : All P (keys below) = young_keys n below (λ j u. under j (from_left (has same_key j below) (has same_key j rest) u)) in
    let later : All P (keys rest) = young_keys n rest (λ j u. under j (from_right (has same_key j below) (has same_key j rest) u)) in
    All-cons P k (keys below ++ keys rest) here (All-append P (keys below) (keys rest) low later)

young_later : (m n : ℕ) (slots : List Slot) → m ≤ n → IsYoung m slots → IsYoung n slots
young_later m n slots l young = All-weaker (λ (z : Slot). z.generation ≤ m) (λ (z : Slot). z.generation ≤ n) (λ z h. omega (arith, h, l)) slots young

young_more : (n : ℕ) (slots : List Slot) → IsYoung n slots → IsYoung (n + 1) slots
young_more n slots young = young_later n (n + 1) slots (omega arith) young

-- ---- changes

-- Each taken slot holds a box, and no slot is past the generation n: a change adds one to n at most.
pub record IsCounted (n : ℕ) (t : Document) : Type 0 where
  pub well : IsWellFormed t
  pub same : taken t ≡ size t.boxes
  pub young : IsYoung n t.slots

pub counted_later : (m n : ℕ) (t : Document) → m ≤ n → IsCounted m t → IsCounted n t
counted_later m n t l s = record { well = s.well; same = s.same; young = young_later m n t.slots l s.young }

young_box : (n : ℕ) (t : Document) (j : BoxKey) → IsCounted n t → contains t j ≡ true → j.generation ≤ n
young_box n t j s m =
    let y = s.well.keyed j m in
    let l : (slot_of t.slots j).generation ≤ n = s.young j.slot (record { generation = 0; taken = false }) y.0 in
    let e : (slot_of t.slots j).generation ≡ j.generation = ap (λ (z : Slot). z.generation) y.1 in
    omega (arith, l, e)

in_branch : (j k : BoxKey) (f : BoxForest) → has same_key k f ≡ true → has same_key j (branch same_key k f) ≡ true → has same_key j f ≡ true
in_branch j k f m u = elim (cases (has same_key j f)) [
  | inl e ↦ e
  | inr o ↦ absurd (never (has same_key j (branch same_key k f)) u
      (out_of_branch j k f (differs_back same_key same_key-sound same_key-refl f j k o m) (out_of_children same_key same_key-sound same_key-refl j k f o)))
]

-- What a change asks of the tree: its boxes are there, a new one has the next key of a slot, and none goes below itself.
abbrev pub IsFor : Change → Document → Type 0
IsFor (insertion p before k d) t = (contains t p ≡ true) × IsNext t k
IsFor (removal k) t = contains t k ≡ true
IsFor (moving k p before) t = (contains t k ≡ true) × (contains t p ≡ true) × (in_subtree same_key p k t.boxes ≡ false)
IsFor _ t = Unit {0}

after_same : (n : ℕ) (c : Change) (t : Document) → n < 4294967295 → IsFor c t → IsCounted n t → taken (after c t) ≡ size (after c t).boxes
after_same n (insertion p before k d) t l h s =
    let a : taken (after (insertion p before k d) t) ≡ taken t + 1 = taken-next t k h.1 in
    let one : BoxForest = tree k d empty empty in
    let b : size (after (insertion p before k d) t).boxes ≡ size t.boxes + size one = size-put p before one t.boxes s.well.apart h.0 in
    let c : size one ≡ 1 = omega arith in
    let e : taken t ≡ size t.boxes = s.same in
    omega (arith, a, b, c, e)
after_same n (removal k) t l h s =
    let f : BoxForest = branch same_key k t.boxes in
    let a : taken (after (removal k) t) + size f ≡ taken t =
    taken-removed k t s.well.keyed s.well.apart (λ j u. last (j.generation) (young_box n t j s (in_branch j k t.boxes h u))) in
    let b : size (without_branch same_key k t.boxes) + size f ≡ size t.boxes = size-cut k t.boxes s.well.apart h in
    let e : taken t ≡ size t.boxes = s.same in
    omega (arith, a, b, e)
  where
    last : (g : ℕ) → g ≤ n → g < 4294967295
    last g u = omega (arith, l, u)
after_same n (moving k p before) t l h s =
    let f : BoxForest = t.boxes in
    let g : BoxForest = without_branch same_key k f in
    let out : (same_key p k ≡ false) × (has same_key p (children same_key k f) ≡ false) = either (same_key p k) (has same_key p (children same_key k f)) h.2 in
    let p_stays : has same_key p g ≡ true = stays same_key same_key-sound same_key-refl p k f h.1 out.0 out.1 in
    let a : size (put_elsewhere k p before f) ≡ size g + size (branch same_key k f) =
    size-put p before (branch same_key k f) g (apart_without same_key same_key-sound same_key-refl k f s.well.apart) p_stays in
    let b : size g + size (branch same_key k f) ≡ size f = size-cut k f s.well.apart h.0 in
    let e : taken t ≡ size t.boxes = s.same in
    omega (arith, a, b, e)
after_same n (styling k c) t l h s = s.same ∙ sym (size-each (λ j. same_key j k) (restyle c) t.boxes)
after_same n (placing k r) t l h s = s.same ∙ sym (size-each (λ j. same_key j k) (with_rect r) t.boxes)
after_same n (shifting k dx dy) t l h s = s.same ∙ sym (size-each (λ j. in_subtree same_key j k t.boxes) (shift_item dx dy) t.boxes)
after_same n (scrolling k v) t l h s = s.same ∙ sym (size-each (λ j. same_key j k) (with_scroll v) t.boxes)

after_young : (n : ℕ) (c : Change) (t : Document) → IsFor c t → IsCounted n t → IsYoung (n + 1) (after c t).slots
after_young n (insertion p before k d) t h s = young_more n (with_taken t.slots k) (young_taken n t.slots k h.1 s.young)
after_young n (removal k) t h s =
    let f : BoxForest = branch same_key k t.boxes in
    young_all_left n t.slots (keys f) (young_keys n f (λ j u. young_box n t j s (in_branch j k t.boxes h u))) (young_more n t.slots s.young)
after_young n (moving k p before) t h s = young_more n t.slots s.young
after_young n (styling k c) t h s = young_more n t.slots s.young
after_young n (placing k r) t h s = young_more n t.slots s.young
after_young n (shifting k dx dy) t h s = young_more n t.slots s.young
after_young n (scrolling k v) t h s = young_more n t.slots s.young

-- one change more, whose marks change neither
pub change_counted : (n : ℕ) (c : Change) (old new : Document) → n < 4294967295 → IsFor c old → new ≡ edited c old → IsWellFormed new
    → IsCounted n old → IsCounted (n + 1) new
change_counted n c old new l h is well s =
    let same : taken (edited c old) ≡ size (edited c old).boxes =
    after_same n c old l h s ∙ sym (size-each (touched_by c old) touch (after c old).boxes) in record {
      well = well;
      same = subst (λ (t : Document). taken t ≡ size t.boxes) (sym is) same;
      young = subst (λ (t : Document). IsYoung (n + 1) t.slots) (sym is) (after_young n c old h s);
    }

-- ---- edits

passed : (b : Bool) (f : EditFault) (more : Option EditFault) → cond b (Some f) more ≡ None → (b ≡ false) × (more ≡ None)
passed true f more h = absurd (let no : Some f ≡ None = h in cc)
passed false f more h = (refl, h)

-- what an edit that no test refuses names
is_for : (e : Edit) (t : Document) (c : Change) → refusal_of t e ≡ None → IsNamed e t c → IsFor c t
is_for (Insert i parent before rect style) t c r h = subst (λ (x : Change). IsFor x t) (sym h.4) (named_there parent (h.0) t.boxes h.2, h.3)
is_for (Remove i) t c r h = subst (λ (x : Change). IsFor x t) (sym h.2) (named_there i (h.0) t.boxes h.1)
is_for (Move i parent before) t c r h =
    let a = passed (is_unknown i t) UnknownId _ r in
    let b = passed (is_unknown parent t) UnknownParent _ a.1 in
    let d = passed (is_one (λ k. is_root k t) i t) IsRoot _ b.1 in
    let o : is_pair (λ k p. in_subtree same_key p k t.boxes) i parent t ≡ false = (passed _ IntoItself _ d.1).0 in
    subst (λ (x : Change). IsFor x t) (sym h.4) (named_there i (h.0) t.boxes h.2, named_there parent (h.1) t.boxes h.3, rw (h.2, h.3) at o)
is_for (SetStyle i change) t c r h = subst (λ (x : Change). IsFor x t) (sym h.2) tt
is_for (SetRect i rect) t c r h = subst (λ (x : Change). IsFor x t) (sym h.2) tt
is_for (Shift i dx dy) t c r h = subst (λ (x : Change). IsFor x t) (sym h.2) tt
is_for (Scroll i x y) t c r h = subst (λ (z : Change). IsFor z t) (sym h.2) tt

-- one edit more
pub edit_counted : (n : ℕ) (e : Edit) (old new : Document) → n < 4294967295 → refusal_of old e ≡ None → IsEdited e old new
    → IsCounted n old → IsCounted (n + 1) new
edit_counted n e old new l r h s = change_counted n (h.0) old new l (is_for e old (h.0) r h.1) h.2 (edit_well e old new h s.well) s

-- An edit that raises no generation: one that makes a box, or scrolls one.
abbrev pub IsMild : Edit → Type 0
IsMild (Insert i parent before rect style) = Unit {0}
IsMild (Remove i) = ⊥
IsMild (Move i parent before) = ⊥
IsMild (SetStyle i change) = ⊥
IsMild (SetRect i rect) = ⊥
IsMild (Shift i dx dy) = ⊥
IsMild (Scroll i x y) = Unit {0}

still_young : (n : ℕ) (e : Edit) (t : Document) (c : Change) → IsMild e → IsNamed e t c → IsFor c t → IsCounted n t → IsYoung n (after c t).slots
still_young n (Insert i parent before rect style) t c m h f s =
    let here : IsNext t h.1 = h.3 in
    subst (λ (x : Change). IsYoung n (after x t).slots) (sym h.4) (young_taken n t.slots h.1 here s.young)
still_young n (Scroll i x y) t c m h f s = subst (λ (z : Change). IsYoung n (after z t).slots) (sym h.2) s.young
still_young n (Remove i) t c m h f s = absurd m
still_young n (Move i parent before) t c m h f s = absurd m
still_young n (SetStyle i change) t c m h f s = absurd m
still_young n (SetRect i rect) t c m h f s = absurd m
still_young n (Shift i dx dy) t c m h f s = absurd m

pub mild_counted : (n : ℕ) (e : Edit) (old new : Document) → n < 4294967295 → IsMild e → refusal_of old e ≡ None → IsEdited e old new
    → IsCounted n old → IsCounted n new
mild_counted n e old new l m r h s =
    let f : IsFor (h.0) old = is_for e old (h.0) r h.1 in
    let same : taken (edited (h.0) old) ≡ size (edited (h.0) old).boxes =
    after_same n (h.0) old l f s ∙ sym (size-each (touched_by (h.0) old) touch (after (h.0) old).boxes) in record {
      well = edit_well e old new h s.well;
      same = subst (λ (t : Document). taken t ≡ size t.boxes) (sym h.2) same;
      young = subst (λ (t : Document). IsYoung n t.slots) (sym h.2) (still_young n e old (h.0) m h.1 f s);
    }
