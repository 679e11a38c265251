-- The boxes above a box, and the rows of live keys.
use Rattle.std.proofs.Common.{◌≡◌, refl, ap, ◌∙◌, sym, subst, ℕ, zero, suc, ◌+◌, ◌<◌, ◌≤◌, Bool, true, false, ◌||◌, ◌&&◌, cond, List, arith, ◌⊎◌, inl, inr}
use Rattle.std.specs.Prelude.{◌==◌, Option, Some, None, option_map, is_some}
use Rattle.rd_keys.specs.Keys.{same_key}
use Rattle.rd_keys.specs.Arena.{Arena, Slot, slot_at}
use Rattle.rd_keys.proofs.Calls.{live_occupied}
use Rattle.rd_keys.proofs.Keys.{same_key-sound, same_key-refl}
use Rattle.rd_tree.specs.declared.node.Node as inner
use Rattle.rd_tree.specs.declared.table.row.Summary.{Summary}
use Rattle.rd_tree.specs.Forest.{empty, tree, has, children, depth, IsApart}
use Rattle.rd_tree.specs.Internal.Links.{Node, Stands, parent_of}
use Rattle.rd_tree.specs.Document.{BoxKey, Item, BoxForest}
use Rattle.rd_tree.specs.Internal.Linked.{linked, plain, IsTree}
use Rattle.rd_tree.specs.Internal.Summaries.{summary_at, is_above}
use Rattle.rd_tree.specs.Internal.Rows.{IsStanding, IsIn, Puts}
use Rattle.rd_tree.proofs.Linking.Standing.{cases, never, from_left, no_children, refute}
use Rattle.rd_tree.proofs.Linking.Children.{stands_children}
use Rattle.rd_tree.proofs.Tables.Climbing.{First, Child, climb, depth_size}

pub at_generation : (y : Slot inner.Node) (g : ℕ) → is_some (option_map plain (cond (y.generation == g) y.holds None)) ≡ true → y.generation ≡ g
at_generation y g h = elim (cases (y.generation == g)) [
  | inl e ↦ grind arith
  | inr e ↦ absurd (never false (ap (λ b. is_some (option_map plain
      (cond b y.holds None))) (sym e) ∙ h) refl)
]

-- A slot has one live key.
pub one_live : (a : Arena inner.Node) (j k : BoxKey) → is_some (linked a j) ≡ true → is_some (linked a k) ≡ true → j.slot ≡ k.slot → same_key k j ≡ true
one_live a j k u v e =
    let x : (slot_at a j.slot).generation ≡ j.generation = at_generation (slot_at a j.slot) j.generation u in
    let y : (slot_at a k.slot).generation ≡ k.generation = at_generation (slot_at a k.slot) k.generation v in
    let g : j.generation ≡ k.generation = sym x ∙ (ap (λ s. (slot_at a s).generation) e ∙ y) in
    same (k.slot) (j.slot) (k.generation) (j.generation) (sym e) (sym g) where
      same : (s t g h : ℕ) → s ≡ t → g ≡ h → ((s == t) && (g == h)) ≡ true
      same s t g h p q = grind arith

-- A row is written that is no other live key's.
pub puts_by : {A : Type 0} (a : Arena inner.Node) (old new : BoxKey → A) (k : BoxKey) (row : A) → ((j : BoxKey) → new j ≡ cond (j.slot == k.slot) row
    (old j)) → is_some (linked a k) ≡ true → (j : BoxKey) → is_some (linked a j) ≡ true → new j ≡ cond (same_key k j) row (old j)
puts_by a old new k row p v j u =
    elim (cases (j.slot == k.slot)) [
      | inl e ↦
          let s : same_key k j ≡ true = one_live a j k u v (equal j.slot k.slot e) in
          p j ∙ rw (e, s) refl
      | inr e ↦ let s : same_key k j ≡ false = off k.slot j.slot k.generation j.generation e in p j ∙ rw (e, s) refl
    ] where
      equal : (s t : ℕ) → (s == t) ≡ true → s ≡ t
      equal s t e = grind arith

      off : (s t g h : ℕ) → (t == s) ≡ false → ((s == t) && (g == h)) ≡ false
      off s t g h e = grind arith

pub puts_at : (a : Arena inner.Node) (old new : List Summary) (k : BoxKey) (row : Summary) → Puts old new k row → is_some (linked a k) ≡ true
    → (j : BoxKey) → is_some (linked a j) ≡ true → summary_at new j ≡ cond (same_key k j) row (summary_at old j)
puts_at a old new k row p = puts_by a (summary_at old) (summary_at new) k row p

module _ (a : Arena inner.Node) (root : BoxKey) (f : BoxForest) (is : IsStanding a root f) (k : BoxKey) (m : has same_key k f ≡ true) where
  node_of : (y : Node BoxKey Item) × (linked a k ≡ Some y) × Stands (linked a) (Some k) None (children same_key k f) y.first y.last None × IsApart same_key
      (children same_key k f) × (has same_key k (children same_key k f) ≡ false)
  node_of = stands_children same_key same_key-sound same_key-refl (linked a) None None f (Some root) (Some root) None k is.apart is.stands m

  pub is_live : is_some (linked a k) ≡ true
  is_live = ap is_some node_of.1

  pub not_below : has same_key k (children same_key k f) ≡ false
  not_below = node_of.4

  step : First same_key same_key-sound same_key-refl None k (parent_of (linked a k)) f ⊎ Child same_key same_key-sound same_key-refl k (parent_of
      (linked a k)) f
  step = climb same_key same_key-sound same_key-refl (linked a) None None f (Some root) (Some root) None k is.apart is.stands m

  -- What is above a box is the box itself and what is above its parent.
  pub above_up : (j : BoxKey) → is_above (Some k) j f ≡ (same_key k j || is_above (parent_of (linked a k)) j f)
  above_up j =
      elim step [
        | inl x ↦ ap (λ b. same_key k j || b) (x.below_none j ∙ ap (λ o. is_above o j f) (sym x.up_is))
        | inr x ↦ ap (λ b. same_key k j || b) (x.below_too j ∙ ap (λ o. is_above o j f) (sym x.up_is))
      ]

  pub off_above : is_above (parent_of (linked a k)) k f ≡ false
  off_above =
      elim step [
        | inl x ↦ ap (λ o. is_above o k f) x.up_is
        | inr x ↦ ap (λ o. is_above o k f) x.up_is ∙ (sym (x.below_too k) ∙ not_below)
      ]

  pub in_up : IsIn (parent_of (linked a k)) f
  in_up =
      elim step [
        | inl x ↦ subst (λ o. IsIn o f) (sym x.up_is) tt
        | inr x ↦ subst (λ o. IsIn o f) (sym x.up_is) x.there
      ]

  pub above_self : is_above (Some k) k f ≡ true
  above_self = from_left (same_key k k) (has same_key k (children same_key k f)) (same_key-refl k)

-- What is above a box of a forest is in it.
pub above_in : (o : Option BoxKey) (k : BoxKey) (f : BoxForest) → IsIn o f → is_above o k f ≡ true → has same_key k f ≡ true
above_in None k f i u = absurd (never false u refl)
above_in (Some j) k f i u =
    elim (cases (has same_key k f)) [
      | inl e ↦ e
      | inr e ↦
          let n : has same_key j (children same_key k f) ≡ false = ap (has same_key j) (no_children same_key same_key-sound same_key-refl k f e) in
          let s : same_key j k ≡ true = sym (right_none (same_key j k)) ∙ (ap (λ b. same_key j k || b) (sym n) ∙ u) in
          subst (λ x. has same_key x f ≡ true) (same_key-sound j k s) i
    ] where
      right_none : (b : Bool) → (b || false) ≡ b
      right_none true = refl
      right_none false = refl

-- how many boxes there are from this one up, at most so many
abbrev pub from_up : ℕ → (BoxKey → Option (Node BoxKey Item)) → Option BoxKey → ℕ
from_up zero at o = 0
from_up (suc n) at None = 0
from_up (suc n) at (Some k) = 1 + from_up n at (parent_of (at k))

pub from_up_none : (n : ℕ) (at : BoxKey → Option (Node BoxKey Item)) → from_up n at None ≡ 0
from_up_none zero at = refl
from_up_none (suc n) at = refl

deep : (k : BoxKey) (f : BoxForest) → has same_key k f ≡ true → 1 ≤ depth same_key k f
deep k empty m = absurd (never false m refl)
deep k (tree j d below rest) m = at (same_key k j) (has same_key k below) (has same_key k rest) m (depth same_key k below) (depth same_key k rest)
    (deep k below) (deep k rest) where
      at : (b c e : Bool) → (b || (c || e)) ≡ true → (x y : ℕ) → (c ≡ true → 1 ≤ x) → (e ≡ true → 1 ≤ y) → 1 ≤ cond b 1 (cond c (1 + x) y)
      at true c e m x y u v = omega arith
      at false true e m x y u v = omega arith
      at false false e m x y u v = v m

from_up_depth : (n : ℕ) (a : Arena inner.Node) (root : BoxKey) (f : BoxForest) → IsStanding a root f → (k : BoxKey) → has same_key k f ≡ true
    → depth same_key k f ≤ n → from_up n (linked a) (Some k) ≡ depth same_key k f
from_up_depth zero a root f is k m h = absurd (omega (arith, deep k f m, h))
from_up_depth (suc n) a root f is k m h =
    elim (step a root f is k m) [
      | inl x ↦ ap (λ o. 1 + from_up n (linked a) o) x.up_is ∙ (ap (λ i. 1 + i) (from_up_none n (linked a)) ∙ sym x.deep)
      | inr x ↦
          let r : from_up n (linked a) (Some x.parent) ≡ depth same_key x.parent f = from_up_depth n a root f is x.parent x.there (omega (arith, h, x.deep)) in
          ap (λ o. 1 + from_up n (linked a) o) x.up_is ∙ omega (arith, r, x.deep)
    ]

-- A step up leaves fewer boxes above.
pub fewer_up : (a : Arena inner.Node) (root : BoxKey) (f : BoxForest) → IsStanding a root f → (k : BoxKey) → has same_key k f ≡ true → from_up a.limit
    (linked a) (parent_of (linked a k)) < from_up a.limit (linked a) (Some k)
fewer_up a root f is k m =
    let small : depth same_key k f ≤ a.limit = omega (arith, depth_size k f, is.small) in
    let here : from_up a.limit (linked a) (Some k) ≡ depth same_key k f = from_up_depth a.limit a root f is k m small in
    elim (step a root f is k m) [
      | inl x ↦
          let n : from_up a.limit (linked a) (parent_of (linked a k)) ≡ 0 = ap (from_up a.limit (linked a)) x.up_is ∙ from_up_none a.limit (linked a) in
          omega (arith, n, here, x.deep)
      | inr x ↦
          let n : from_up a.limit (linked a) (parent_of (linked a k)) ≡ depth same_key x.parent f = ap (from_up a.limit (linked a)) x.up_is
          ∙ from_up_depth a.limit a root f is x.parent x.there (omega (arith, small, x.deep)) in
          omega (arith, n, here, x.deep)
    ]

-- No box outside a forest is above one of it.
pub off_outside : (o : Option BoxKey) (k : BoxKey) (f : BoxForest) → IsIn o f → has same_key k f ≡ false → is_above o k f ≡ false
off_outside o k f i n = refute (is_above o k f) (λ u. never (has same_key k f) (above_in o k f i u) n)

-- The links of a tree stand for its boxes.
pub tree_stands : (a : Arena inner.Node) (root : BoxKey) (t : IsTree a root) → IsStanding a root t.boxes
tree_stands a root t = record { stands = t.is.stands; apart = t.is.apart; small = omega (arith, t.is.counted, live_occupied a, t.most) }
