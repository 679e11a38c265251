-- What a paint makes anew.
use Rattle.std.proofs.Common.{◌≡◌, refl, ap, ◌∙◌, sym, ℕ, ◌+◌, ◌≤◌, length, arith, inl, inr}
use Rattle.rd_geom.specs.Areas.{meets_area}
use Rattle.rd_keys.specs.Keys.{same_key}
use Rattle.rd_graph.proofs.Lists.Listing.{Has, has_either}
use Rattle.rd_item.specs.declared.leaf.Leaf.{Leaf}
use Rattle.rd_item.specs.Items.{Made}
use Rattle.rd_list.specs.Wrappers.{Wrapper}
use Rattle.rd_list.specs.Entries.{Entries, nil, leaf, group, flat}
use Rattle.rd_list.specs.EntryNames.{new_leaves}
use Rattle.rd_tree.specs.Forest.{IsApart, size}
use Rattle.rd_tree.specs.Document.{is_touched}
use Rattle.rd_stack.specs.Fresh.{fresh_list}
use Rattle.rd_stack.proofs.Promises.{stands_for_itself, few_entries}
use Rattle.rd_merge.specs.Merging.{CanBeMerged}
use Rattle.rd_partial.specs.Numbered.{numbered}
use Rattle.rd_engine.specs.State.{EngineState, IsEngine}
use Rattle.rd_engine.specs.Invalid.{invalid_area}
use Rattle.rd_engine.specs.Painted.{remade}
use Rattle.rd_engine.specs.Internal.Parts.{IsRemade}
use Rattle.rd_engine.proofs.Fewer.{only_length, new_length}

pub new_numbered : (n : ℕ) (xs : Entries Wrapper Leaf) → new_leaves (numbered n xs) ≡ xs
new_numbered n nil = refl
new_numbered n (leaf l xs) = ap (leaf l) (new_numbered n xs)
new_numbered n (group g inner xs) = rw (new_numbered n inner, new_numbered n xs) refl

pub made_by : (n : ℕ) (xs : Entries Wrapper Leaf) (i : Made) → Has (flat (numbered n xs)) i → i.made_at ≡ n
made_by n nil i h = absurd h
made_by n (leaf l xs) i (inl e) = sym (ap (λ m. m.made_at) e)
made_by n (leaf l xs) i (inr h) = made_by n xs i h
made_by n (group g inner xs) i h = elim (has_either (flat (numbered n inner)) (flat (numbered n xs)) i h) [ inl k ↦ made_by n inner i k | inr k ↦ made_by n xs i k ]

pub numbered_length : (n : ℕ) (xs : Entries Wrapper Leaf) → length (flat (numbered n xs)) ≡ length (flat xs)
numbered_length n xs = sym (new_length (numbered n xs)) ∙ ap (λ ys. length (flat ys)) (new_numbered n xs)

module _ (s : EngineState) (apart : IsApart same_key s.tree.boxes) where
  -- a tree has at most four leaves for each box
  pub few_fresh : size s.tree.boxes ≤ 20000 → length (flat (fresh_list s.tree)) ≤ 80000
  few_fresh few = let f = (few_entries s.tree apart).leaves in omega (arith, f, few)

  pub few_remade : length (flat (remade s)) ≤ length (flat (fresh_list s.tree))
  few_remade = only_length (λ l. meets_area (invalid_area s) l.visible) (fresh_list s.tree)

  pub remade_is : (new : Entries Wrapper Made) → size s.tree.boxes ≤ 20000 → new ≡ numbered (s.paints + 1) (remade s) → IsRemade s new
  remade_is new few e =
      let a = few_fresh few in
      let b = few_remade in
      let c = ap (λ xs. length (flat xs)) e ∙ numbered_length (s.paints + 1) (remade s) in
      record { is = e; few = omega (arith, a, b, c) }

  pub can_merge : (new : Entries Wrapper Made) → IsEngine s → IsRemade s new → CanBeMerged (λ k. is_touched k s.tree.boxes) s.kept new
  can_merge new e r = record {
    fresh = fresh_list s.tree;
    in_area = λ l. meets_area (invalid_area s) l.visible;
    itself = stands_for_itself s.tree apart;
    ready = e.ready;
    limited = ap new_leaves r.is ∙ new_numbered (s.paints + 1) (remade s);
  }
