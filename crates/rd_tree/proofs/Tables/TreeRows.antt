-- What a tree gives to those who keep its table.
use Rattle.std.proofs.Common.{◌≡◌, refl, sym, subst, ◌<◌, ◌≤◌, true, arith, List, length, ℕ, Bool, ◌∙◌, ap, false}
use Rattle.std.specs.Prelude.{Option, Some, None, String, is_some, option_map, slice_index_or}
use Rattle.std.specs.HashMap.{HashMap}
use Rattle.rd_keys.specs.Keys.{same_key}
use Rattle.rd_keys.specs.Arena.{Arena, unmade, slot_at, value, is_taken}
use Rattle.rd_keys.proofs.Calls.{live_within, taken-live}
use Rattle.std.proofs.lemmas.List.{length-map}
use Rattle.std.proofs.Math.ListN.{get_or-map}
use Rattle.rd_tree.specs.declared.node.Node as inner
use Rattle.rd_tree.specs.declared.table.row.Summary.{Summary}
use Rattle.rd_tree.specs.Forest.{has}
use Rattle.rd_tree.specs.Document.{BoxKey, BoxForest, Slot}
use Rattle.rd_tree.specs.Internal.Linked.{plain, linked, marks, mark_of, IsTree, IsConsistent, seen}
use Rattle.rd_tree.specs.Internal.Rows.{IsStanding, HasRows, CanClimb}
use Rattle.rd_tree.proofs.Nodes.Grow.{seen_is}
use Rattle.rd_tree.proofs.Nodes.Naming.{fits_seen}
use Rattle.rd_tree.proofs.Tables.Above.{is_live, at_generation, tree_stands}

pub seen_stands : (a : Arena inner.Node) (root : BoxKey) → IsTree a root → IsStanding a root (seen a root)
seen_stands a root t = subst (λ f. IsStanding a root f) (sym (seen_is a root t)) (tree_stands a root t)

-- The slot of a live key was made.
pub slot_made : (a : Arena inner.Node) (k : BoxKey) → is_some (linked a k) ≡ true → k.slot < length a.slots
slot_made a k h = at (value a k.slot k.generation) refl where
  at : (o : Option inner.Node) → value a k.slot k.generation ≡ o → k.slot < length a.slots
  at None e = let n : is_some (option_map plain None) ≡ true = subst (λ o. is_some (option_map plain o) ≡ true) e h in cc (n)
  at (Some x) e = live_within a k.slot k.generation x e

-- A live key is that of a taken slot, at the generation of the slot.
pub live_keyed : (a : Arena inner.Node) (k : BoxKey) → is_some (linked a k) ≡ true →
    (k.slot < length (marks a)) × (slice_index_or (marks a) k.slot (record { generation = 0; taken = false }) ≡ record {
      generation = k.generation;
      taken =
          true;
    })
live_keyed a k h = at (value a k.slot k.generation) refl where
  of : ℕ → Bool → Slot
  of n b = record { generation = n; taken = b }

  at : (o : Option inner.Node) → value a k.slot k.generation ≡ o →
      (k.slot < length (marks a)) × (slice_index_or (marks a) k.slot (record { generation = 0; taken = false }) ≡ record {
        generation = k.generation;
        taken
            = true;
      })
  at None e = let n : is_some (option_map plain None) ≡ true = subst (λ o. is_some (option_map plain o) ≡ true) e h in cc (n)
  at (Some x) e =
      let g : (slot_at a k.slot).generation ≡ k.generation = at_generation (slot_at a k.slot) k.generation h in
      let t : is_taken (slot_at a k.slot) ≡ true = taken-live a k.slot k.generation x e in
      let len : length (marks a) ≡ length a.slots = length-map a.slots mark_of in
      let l : k.slot < length a.slots = live_within a k.slot k.generation x e in
      (omega (arith, len, l), get_or-map mark_of a.slots k.slot unmade ∙ (ap (λ n. of n (is_taken (slot_at a k.slot))) g ∙ ap (of k.generation) t))

pub seen_keyed : (a : Arena inner.Node) (root k : BoxKey) → IsTree a root → has same_key k (seen a root) ≡ true →
    (k.slot < length (marks a)) × (slice_index_or (marks a) k.slot (record { generation = 0; taken = false }) ≡ record {
      generation = k.generation;
      taken =
          true;
    })
seen_keyed a root k t h = live_keyed a k (is_live a root (seen a root) (seen_stands a root t) k h)

-- Each box that the links stand for has a row, where each slot has one.
pub each_has_row : (a : Arena inner.Node) (root : BoxKey) (f : BoxForest) (rows : List Summary) → IsStanding a root f → length a.slots ≤ length rows
    → HasRows rows f
each_has_row a root f rows s most k h = let l = slot_made a k (is_live a root f s k h) in omega (arith, l, most)

-- The rows above a box of a tree can be changed.
pub tree_climbs : {Y S : Type 0} (a : Arena inner.Node) (root p : BoxKey) (ids : HashMap (String Y) BoxKey S) (rows : List Summary) (Q : BoxForest
    → Type 0) → IsConsistent a root ids → length a.slots ≤ length rows →
    has same_key p (seen a root) ≡ true → Q (seen a root) → CanClimb a rows p Q
tree_climbs a root p ids rows Q s most m q =
    let st : IsStanding a root (seen a root) = seen_stands a root s.tree in
    record {
      root = root;
      boxes = seen a root;
      is = st;
      there = m;
      has_rows = each_has_row a root (seen a root) rows st most;
      fits = fits_seen a root ids
          s;
      few = s.limit;
      ready = q;
    }
