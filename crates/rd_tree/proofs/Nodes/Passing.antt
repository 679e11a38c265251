-- What a walk among siblings passes with a page.
use Rattle.std.proofs.Common.{◌≡◌, refl, ap, ◌∙◌, sym, ℕ, zero, suc, ◌+◌, ◌-◌, ◌<◌, ◌==◌, true, false, arith, List}
use Rattle.std.specs.Prelude.{Option, Some, None, is_some, IfSome}
use Rattle.rd_keys.specs.Arena.{Arena, slot_at, value}
use Rattle.rd_keys.specs.Keys.{BoxKey}
use Rattle.rd_keys.proofs.Calls.{live_slot}
use Rattle.rd_tree.specs.declared.node.Node as inner
use Rattle.rd_tree.specs.declared.glance.Glance.{Glance}
use Rattle.rd_tree.specs.declared.shared.TheConstants.{PAGE}
use Rattle.rd_tree.specs.Internal.Glances.{glance_of, glance_in, seen_at, unseen, AreGlances}
use Rattle.rd_tree.specs.Internal.Calm.{IsCalmRow, IsFollowed, IsPassed, IsRun, next_at, place_on, IsCalmBox, Passes, Runs}

-- The box of a calm row.
calm_box : (a : Arena inner.Node) (gs : List Glance) (k : BoxKey) (s : ℕ) (at to : Option BoxKey) → AreGlances a gs → at ≡ Some k → k.slot ≡ s
    → k.generation ≡ (seen_at gs s).generation → IsCalmRow (seen_at gs s) → (seen_at gs s).next ≡ to → IsCalmBox a s at to
calm_box a gs k s at to r is here g c n = on (slot_at a s).holds refl where
  on : (o : Option inner.Node) → (slot_at a s).holds ≡ o → IsCalmBox a s at to
  on None h =
      let e : seen_at gs s ≡ unseen = r.right s ∙ ap (glance_in (slot_at a s).generation) h in
      let m : true ≡ false = sym (ap (λ y. y.touched) e) ∙ c.untouched in
      absurd (cc (m))
  on (Some x) h =
      let e : seen_at gs s ≡ glance_of (slot_at a s).generation x = r.right s ∙ ap (glance_in (slot_at a s).generation) h in
      let same : (k.generation ≡ (slot_at a s).generation) = g ∙ ap (λ y. y.generation) e in
      let it : ((slot_at a s).generation == k.generation) ≡ true = grind arith in
      let there : value a s k.generation ≡ Some x = rw it h in
      record {
        key = k;
        is = is;
        slot = here;
        node = x;
        found = ap (λ i. value a i k.generation) here ∙ there;
        untouched = sym (ap (λ y. y.touched) e) ∙ c.untouched;
        alone = sym (ap (λ y. y.first) e) ∙ c.alone;
        after = sym (ap (λ y. y.next) e) ∙ n;
      }

-- The row of a live key has its generation.
row_of_key : (a : Arena inner.Node) (gs : List Glance) (k : BoxKey) → AreGlances a gs → is_some (value a k.slot k.generation) ≡ true
    → k.generation ≡ (seen_at gs k.slot).generation
row_of_key a gs k r l = on (value a k.slot k.generation) refl where
  on : (o : Option inner.Node) → value a k.slot k.generation ≡ o → k.generation ≡ (seen_at gs k.slot).generation
  on None h =
      let m : false ≡ true = sym (ap is_some h) ∙ l in
      absurd (cc (m))
  on (Some x) h =
      let v : ((slot_at a k.slot).generation ≡ k.generation) × ((slot_at a k.slot).holds ≡ Some x) = live_slot a k.slot k.generation x h in
      sym (ap (λ y. y.generation) (r.right k.slot ∙ ap (glance_in (slot_at a k.slot).generation) v.1) ∙ v.0)

-- The boxes of a run.
pub runs : (a : Arena inner.Node) (gs : List Glance) (k : BoxKey) (n : ℕ) → AreGlances a gs → is_some (value a k.slot k.generation) ≡ true
    → IsRun gs k.slot n → Runs a k n
runs a gs k n r l p = record { full = omega (arith, p.full, r.all); each = each } where
  on : (i : ℕ) → (seen_at gs (k.slot + i)).next ≡ place_on a k (suc i)
  on i = ap (λ y. y.next) (r.right (k.slot + i))

  each : (i : ℕ) → i < n → IsCalmBox a (k.slot + i) (place_on a k i) (place_on a k (suc i))
  each zero u =
      let m : k.slot ≡ k.slot + 0 = omega arith in
      calm_box a gs k (k.slot + 0) (Some k) (place_on a k (suc 0)) r refl m
      (row_of_key a gs k r l ∙ ap (λ i. (seen_at gs i).generation) m) (p.calm 0 u) (on 0)
  each (suc i) u =
      let f : IsFollowed gs (k.slot + i) = p.followed i (omega (arith, u)) in
      let m : k.slot + i + 1 ≡ k.slot + suc i = omega arith in
      calm_box a gs f.key (k.slot + suc i) (place_on a k (suc i)) (place_on a k (suc (suc i))) r (sym (on i) ∙ f.after) (f.slot ∙ m)
      (f.generation ∙ ap (λ j. (seen_at gs j).generation) m) (p.calm (suc i) u) (on (suc i))

-- Those of a page that is passed.
passes : (a : Arena inner.Node) (gs : List Glance) (k : BoxKey) (to : Option BoxKey) → AreGlances a gs → is_some (value a k.slot k.generation) ≡ true
    → IsPassed gs k.slot to → Passes a k to
passes a gs k to r l p = record {
  runs = runs a gs k PAGE r l (record { full = p.full; calm = p.calm; followed = p.followed });
  ends = sym (p.last ∙ (ap (λ n. (seen_at gs n).next) last ∙ ap (λ y. y.next) (r.right (k.slot + 63))));
} where
  last : k.slot + PAGE - 1 ≡ k.slot + 63
  last = omega arith

pub if_passes : (a : Arena inner.Node) (gs : List Glance) (k : BoxKey) (o : Option (Option BoxKey)) → AreGlances a gs → is_some (value a k.slot k.generation) ≡ true
    → IfSome o (IsPassed gs k.slot) → IfSome o (Passes a k)
if_passes a gs k None r l h = h
if_passes a gs k (Some to) r l h = passes a gs k to r l h

-- The sibling after a box of a run.
pub placed : (a : Arena inner.Node) (k : BoxKey) (s : ℕ) → k.slot < s → next_at a (s - 1) ≡ place_on a k (s - k.slot)
placed a k s l =
    let e : s - k.slot ≡ suc (s - k.slot - 1) = omega (arith, l) in
    let n : k.slot + (s - k.slot - 1) ≡ s - 1 = omega (arith, l) in
    sym (ap (place_on a k) e ∙ ap (next_at a) n)

pub placed_here : (a : Arena inner.Node) (k : BoxKey) (s : ℕ) → s ≡ k.slot → Some k ≡ place_on a k (s - k.slot)
placed_here a k s e =
    let z : s - k.slot ≡ 0 = omega (arith, e) in
    sym (ap (place_on a k) z)
