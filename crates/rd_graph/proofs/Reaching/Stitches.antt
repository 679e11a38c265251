-- The loops that drop nodes.
use Rattle.std.proofs.Common.{◌≡◌, refl, suc, ap, ◌∙◌, sym, ℕ, ◌+◌, ◌<◌, Bool, true, false, cond, List, [], ◌∷◌, ◌++◌, length, take, drop, get_or, append_assoc, inl, inr, drop-cons, add-one}
use Rattle.std.proofs.lemmas.List.{take_more, append-nil}
use Rattle.rd_keys.specs.declared.entry.EntryKey.{EntryKey}
use Rattle.rd_graph.specs.Graphs.{Graph}
use Rattle.rd_graph.specs.Internal.Passes.{all_pushed, resolved, distinct, noted, stitch_pass}
use Rattle.rd_graph.specs.Internal.Seen.{seen}
use Rattle.rd_graph.specs.declared.graph.Node.{Node}
use Rattle.rd_graph.proofs.Lists.Listing.{cases}
use Rattle.rd_graph.specs.Names.{same_entry}
use Rattle.rd_graph.proofs.Lists.Entries.{all_pushed-append, resolved-more, resolved-same}

pub resolves_next : (gone : EntryKey → Bool) (notes : EntryKey → List EntryKey) (before : List EntryKey) (i : ℕ) (d : EntryKey) (now then : List EntryKey) → i < length before
    → now ≡ all_pushed same_entry [] (resolved same_entry gone notes (take i before))
    → then ≡ all_pushed same_entry now (cond (gone (get_or before i d)) (notes (get_or before i d)) (get_or before i d ∷ []))
    → then ≡ all_pushed same_entry [] (resolved same_entry gone notes (take (i + 1) before))
resolves_next gone notes before i d now then h was is =
    rw (is, was, take_more before i d h, resolved-more same_entry gone notes (take i before) (get_or before i d))
    (sym (all_pushed-append same_entry [] (resolved same_entry gone notes (take i before)) (cond (gone (get_or before i d)) (notes (get_or before i d)) (get_or before i d ∷ []))))

-- one node of the pass
module _ (gone : EntryKey → Bool) (nodes : List Node) (i : ℕ) (x : Node) (through : Graph EntryKey) (total : Graph EntryKey) (was now : EntryKey → List EntryKey) (left then : List Node)
    (h : i < length nodes) (is : x ≡ get_or nodes i x)
    (notes : (k : EntryKey) → was k ≡ noted same_entry gone through k)
    (so_far : seen left ++ stitch_pass same_entry gone through (seen (drop i nodes)) ≡ total) where
  abbrev pub found : List EntryKey
  found = distinct same_entry gone through x.before.items

  abbrev Passed : Type 0
  Passed = (next : Graph EntryKey) × ((k : EntryKey) → now k ≡ noted same_entry gone next k) × (seen then ++ stitch_pass same_entry gone next (seen (drop (i + 1) nodes)) ≡ total)

  next_node : drop i nodes ≡ x ∷ drop (i + 1) nodes
  next_node = rw (add-one i) (drop-cons nodes i x h ∙ ap (λ y. y ∷ drop (suc i) nodes) (sym is))

  step : stitch_pass same_entry gone through (seen (drop i nodes)) ≡ cond (gone x.key) (stitch_pass same_entry gone ((x.key, found) ∷ through) (seen (drop (i + 1) nodes))) ((x.key, found) ∷ stitch_pass same_entry gone through (seen (drop (i + 1) nodes)))
  step = ap (λ ns. stitch_pass same_entry gone through (seen ns)) next_node

  pub passes_next : (b : Bool) (before : List EntryKey) → b ≡ gone x.key → before ≡ all_pushed same_entry [] (resolved same_entry gone was x.before.items)
      → ((k : EntryKey) → now k ≡ cond b (cond (same_entry x.key k) before (was k)) (was k))
      → seen then ≡ seen left ++ cond b [] ((x.key, before) ∷ [])
      → Passed
  passes_next b before bg f n l =
      let e : before ≡ found = f ∙ ap (all_pushed same_entry []) (resolved-same same_entry gone was (noted same_entry gone through) notes x.before.items) in
      elim (cases b) [
        | inl t ↦
            let g : gone x.key ≡ true = sym bg ∙ t in
            let m : (k : EntryKey) → now k ≡ cond (same_entry x.key k) before (was k) = λ k. (let u = n k in rw t at u) in
            let s : seen then ≡ seen left ++ [] = rw t at l in
            let p : stitch_pass same_entry gone through (seen (drop i nodes)) ≡ stitch_pass same_entry gone ((x.key, found) ∷ through) (seen (drop (i + 1) nodes)) = rw g at step in
            ((x.key, found) ∷ through, (λ k. m k ∙ rw (e, notes k) refl), rw (s, append-nil (seen left), sym p) so_far)
        | inr t ↦
            let g : gone x.key ≡ false = sym bg ∙ t in
            let m : (k : EntryKey) → now k ≡ was k = λ k. (let u = n k in rw t at u) in
            let s : seen then ≡ seen left ++ (x.key, before) ∷ [] = rw t at l in
            let p : stitch_pass same_entry gone through (seen (drop i nodes)) ≡ (x.key, found) ∷ stitch_pass same_entry gone through (seen (drop (i + 1) nodes)) = rw g at step in
            (through, (λ k. m k ∙ notes k), rw (s, e) (append_assoc (seen left) ((x.key, found) ∷ []) (stitch_pass same_entry gone through (seen (drop (i + 1) nodes))) ∙ ap (λ xs. seen left ++ xs) (sym p) ∙ so_far))
      ]
