-- The table of a tree stays right.
use Rattle.std.proofs.Common.{◌≡◌, refl, ap, ◌∙◌, sym, subst, ℕ, ◌+◌, ◌<◌, ◌≤◌, ◌==◌, Bool, true, false, cond, arith, List, [], ◌∷◌, ◌++◌, length, inl, inr}
use Rattle.std.specs.Prelude.{Some, is_some, slice_set, nat_lt}
use Rattle.std.proofs.lemmas.List.{length-set, length-append, length-map}
use Rattle.rd_geom.specs.Plane.{hull_of, no_pixels}
use Rattle.rd_keys.specs.Keys.{same_key}
use Rattle.rd_keys.specs.Arena.{Arena, with_slot, Enters}
use Rattle.rd_keys.proofs.Keys.{same_key-sound, same_key-refl}
use Rattle.rd_tree.specs.declared.node.Node as inner
use Rattle.rd_tree.specs.declared.table.row.Summary.{Summary}
use Rattle.rd_tree.specs.Forest.{empty, tree, has, map_where}
use Rattle.rd_tree.specs.Document.{BoxKey, Item}
use Rattle.rd_tree.specs.Internal.Linked.{linked, seen, marks, mark_of}
use Rattle.rd_tree.specs.Internal.Settles.{Unmarks}
use Rattle.rd_tree.specs.Internal.Summaries.{summary_of, summary_at}
use Rattle.rd_tree.specs.Hulls.{extent}
use Rattle.rd_tree.specs.Internal.Rows.{IsTabled, Puts, alone, unmarked}
use Rattle.rd_tree.specs.Touching.{settled}
use Rattle.rd_tree.proofs.Linking.Standing.{cases, never}
use Rattle.rd_tree.proofs.Nodes.Each.{has-each}
use Rattle.rd_tree.proofs.Summaries.Settled.{summary-settled}

-- There is a row for each slot, once there is one for the slot of a key that comes in.
pub rows_enter : (old new : Arena inner.Node) (s g m : ℕ) (x : inner.Node) → Enters old new s g x → length old.slots ≤ m → s < m → length new.slots ≤ m
rows_enter old new s g m x e most here = subst (λ n. n ≤ m) (sym (ap (λ a. length a.slots) e.result)) (at (nat_lt s (length old.slots)) refl) where
  before : (m n : ℕ) → m < n → nat_lt m n ≡ true
  before m n h = grind arith

  at : (b : Bool) → nat_lt s (length old.slots) ≡ b → length (with_slot old.slots s (record { generation = g; holds = Some x; retired = false })) ≤ m
  at true h = let n : length (slice_set old.slots s (record { generation = g; holds = Some x; retired = false })) ≡ length old.slots = length-set old.slots
      s (record { generation = g; holds = Some x; retired = false }) in rw h (omega (arith, n, most))
  at false h =
      let n : length (old.slots ++ record { generation = g; holds = Some x; retired = false } ∷ []) ≡ length old.slots + 1 = length-append old.slots
      (record { generation = g; holds = Some x; retired = false } ∷ []) in
      rw h (elim e.place [
        | inl u ↦ absurd (never (nat_lt s (length old.slots)) (before s (length old.slots) u.0) h)
        | inr u ↦ (let l = u.0 in omega
            (arith, n, l, here))
      ])

-- The row that is put at a key is there.
pub put_here : (old new : List Summary) (k : BoxKey) (row : Summary) → Puts old new k row → summary_at new k ≡ row
put_here old new k row p = p k ∙ ap (λ b. cond b row (summary_at old k)) (equal k.slot) where
  equal : (s : ℕ) → (s == s) ≡ true
  equal s = grind arith

-- The root came in alone.
pub planted_near : (a : Arena inner.Node) (k : BoxKey) (d : Item) (rows : List Summary) → seen a k ≡ tree k d empty empty → length a.slots ≤ length rows →
    summary_at rows k ≡ alone (hull_of (extent d) no_pixels) → IsTabled a rows (seen a k)
planted_near a k d rows e all row = subst (λ f. IsTabled a rows f) (sym e) (record { all_rows = all; right = right }) where
  right : (j : BoxKey) → has same_key j (tree k d empty empty) ≡ true → summary_at rows j ≡ summary_of j (tree k d empty empty)
  right j h =
      elim (cases (same_key j k)) [
        | inl u ↦ subst (λ i. summary_at rows i ≡ summary_of i (tree k d empty empty)) (sym (same_key-sound j k u)) (row ∙ rw (same_key-refl k) refl)
        | inr u ↦ absurd (never (has same_key j (tree k d empty empty)) h (rw u refl))
      ]

-- As many slots as before.
pub same_slots : (a b : Arena inner.Node) → marks b ≡ marks a → length b.slots ≡ length a.slots
same_slots a b e = sym (length-map b.slots mark_of) ∙ (ap length e ∙ length-map a.slots mark_of)

-- No box is touched any more.
pub settled_table : (a b : Arena inner.Node) (root : BoxKey) (old new : List Summary) → marks b ≡ marks a → seen b root ≡ map_where (λ _. true) settled
    (seen a root) →
    ((k : BoxKey) → has same_key k (seen a root) ≡ true → is_some (linked a k) ≡ true) → Unmarks a old new (seen a root) → length new ≡ length old
    → IsTabled a old (seen a root) → IsTabled b new (seen b root)
settled_table a b root old new slots sees live rows l n = subst (λ f. IsTabled b new f) (sym sees) (record {
  all_rows = let m : length b.slots ≡ length a.slots = same_slots a b slots in omega (arith, m, l, n.all_rows);
  right = λ k h.
      let i : has same_key k (seen a root) ≡ true = sym (has-each (λ _. true) settled same_key k (seen a root)) ∙ h in
      rows k (live k i) ∙ (rw i (ap unmarked (n.right k i) ∙ sym (summary-settled k (seen a root))));
})
