-- A graph with a chain, after the sort.
use Rattle.std.proofs.Common.{◌≡◌, refl, ap, ◌∙◌, sym, subst, ℕ, List, [], ◌∷◌, ◌++◌, map, inl, inr, ◌⊎◌, arith}
use Rattle.std.specs.Prelude.{IsPermutation, ◌↔◌}
use Rattle.std.specs.List.Sorted.{IsNonDecreasingBy, IsStableByKey}
use Rattle.std.specs.Ordering.{nat_cmp}
use Rattle.std.proofs.lemmas.Bool.{cases_lt}
use Rattle.std.proofs.lemmas.List.Sorted.{Contains-permutation, IsPermutation-map, IsPermutation-sym}
use Rattle.rd_keys.specs.declared.entry.EntryKey.{EntryKey}
use Rattle.rd_graph.specs.Orders as order
use Rattle.rd_graph.specs.Orders.{Before}
use Rattle.rd_graph.specs.Graphs.{Graph, nodes, Precedes, Next, GoTogether, IsInOrder, AddsChain}
use Rattle.rd_graph.specs.Internal.Chains.{AreLabels, old_part, new_part}
use Rattle.rd_graph.specs.Internal.Seen.{seen, tagged, labelled}
use Rattle.rd_graph.specs.Names.{same_entry}
use Rattle.rd_graph.specs.declared.graph.Node.{Node}
use Rattle.rd_graph.proofs.Lists.Listing.{Has, Once, has_from, contains_from, before_left, has_map, before_to, before_from}
use Rattle.rd_graph.proofs.Reaching.Calls.{once_of, once_to, linking}
use Rattle.rd_graph.proofs.Reaching.Chains.{next_to}
use Rattle.rd_graph.proofs.Lists.Entries.{same_entry-sound, same_entry-refl}
use Rattle.rd_graph.proofs.Reaching.Sorting.{once_permutation, labels_before, places_before}
use Rattle.rd_graph.proofs.Reaching.Adding.{edges_to, edges_from, nodes_from, nodes_to, nodes_both, once_both, chain_rises}

module _ (chain : List EntryKey) (g : Graph EntryKey) (label : EntryKey → ℕ) (all sorted : List (ℕ × Node))
    (once : order.Once chain) (sound : IsInOrder g) (go : GoTogether chain g) (labels : AreLabels g chain label)
    (joined : tagged all ≡ labelled label (old_part same_entry chain g ++ new_part same_entry chain g))
    (moved : IsPermutation all sorted) (up : IsNonDecreasingBy (λ p. p.0) sorted) (stable : IsStableByKey (λ p. p.0) nat_cmp all sorted) where
  abbrev both : Graph EntryKey
  both = old_part same_entry chain g ++ new_part same_entry chain g

  abbrev new : Graph EntryKey
  new = seen (map (λ p. p.1) sorted)

  abbrev key : ℕ × Node → EntryKey
  key p = p.1.key

  chain_once : Once chain
  chain_once = once_of chain once

  -- the pairs without their labels
  untagged : (ps : List (ℕ × Node)) → map (λ (t : ℕ × (EntryKey × List EntryKey)). t.1) (tagged ps) ≡ seen (map (λ p. p.1) ps)
  untagged [] = refl
  untagged (p ∷ ps) = ap (λ zs. (p.1.key, p.1.before.items) ∷ zs) (untagged ps)

  unlabelled : (xs : Graph EntryKey) → map (λ (t : ℕ × (EntryKey × List EntryKey)). t.1) (labelled label xs) ≡ xs
  unlabelled [] = refl
  unlabelled (x ∷ xs) = ap (λ zs. x ∷ zs) (unlabelled xs)

  all_is : seen (map (λ p. p.1) all) ≡ both
  all_is = sym (untagged all) ∙ ap (λ ts. map (λ (t : ℕ × (EntryKey × List EntryKey)). t.1) ts) joined ∙ unlabelled both

  keys_are : (ps : List (ℕ × Node)) → map key ps ≡ nodes (seen (map (λ p. p.1) ps))
  keys_are [] = refl
  keys_are (p ∷ ps) = ap (λ zs. p.1.key ∷ zs) (keys_are ps)

  all_keys : map key all ≡ nodes both
  all_keys = keys_are all ∙ ap nodes all_is

  has_label : (xs : Graph EntryKey) (t : ℕ × (EntryKey × List EntryKey)) → Has (labelled label xs) t → t.0 ≡ label t.1.0
  has_label [] t h = absurd h
  has_label (x ∷ xs) t (inl e) = sym (ap (λ q. q.0) e) ∙ ap (λ q. label q.1.0) e
  has_label (x ∷ xs) t (inr h) = has_label xs t h

  numbered : (p : ℕ × Node) → Has all p → p.0 ≡ label (key p)
  numbered p h = has_label both (p.0, (p.1.key, p.1.before.items)) (subst (λ ts. Has ts (p.0, (p.1.key, p.1.before.items))) joined (has_map (λ (q : ℕ × Node). (q.0, (q.1.key, q.1.before.items))) all p h))

  moved_keys : IsPermutation (nodes both) (nodes new)
  moved_keys = subst (λ ks. IsPermutation ks (nodes new)) all_keys (subst (λ ks. IsPermutation (map key all) ks) (keys_are sorted) (IsPermutation-map key all sorted moved))

  moved_nodes : IsPermutation both new
  moved_nodes = subst (λ ks. IsPermutation ks new) all_is (IsPermutation-map {X = EntryKey × List EntryKey} (λ (n : Node). (n.key, n.before.items)) (map (λ p. p.1) all) (map (λ p. p.1) sorted) (IsPermutation-map {X = Node} (λ p. p.1) all sorted moved))

  new_once : Once (nodes new)
  new_once = once_permutation same_entry same_entry-sound same_entry-refl (nodes both) (nodes new) moved_keys (once_both same_entry same_entry-sound same_entry-refl chain g (once_of (nodes g) sound.once) chain_once)

  edges : (a b : EntryKey) → Precedes new a b ↔ (Precedes g a b ⊎ Next chain a b)
  edges a b = (
    (λ s. edges_to same_entry same_entry-sound same_entry-refl chain g a b (s.0, Contains-permutation new both (b, s.0) (IsPermutation-sym both new moved_nodes) s.1, s.2)),
    (λ s. let r = edges_from same_entry same_entry-sound same_entry-refl chain g chain_once a b s in (r.0, Contains-permutation both new (b, r.0) moved_nodes r.1, r.2)),
  )

  chain_in : (a b : EntryKey) → Next chain a b → Has (map key all) a × Has (map key all) b
  chain_in a b h =
      let n : Before chain a b = next_to chain a b h in (
        subst (λ ks. Has ks a) (sym all_keys) (nodes_from same_entry same_entry-sound same_entry-refl chain g a (inr (before_from chain a b n))),
        subst (λ ks. Has ks b) (sym all_keys) (nodes_from same_entry same_entry-sound same_entry-refl chain g b (inr (before_to chain a b n))),
      )

  forward : (a b : EntryKey) → Precedes new a b → Before (nodes new) a b
  forward a b s = subst (λ ks. Before ks a b) (keys_are sorted) (elim ((edges a b).0 s) [
    | inl old ↦
        let f : Before (nodes g) a b = sound.forward a b old in
        let there : Before (map key all) a b = subst (λ ks. Before ks a b) (sym (all_keys ∙ nodes_both same_entry same_entry-sound same_entry-refl chain g)) (before_left (nodes g) (nodes (new_part same_entry chain g)) a b f) in
        let l = labels.rises a b old in
        elim (cases_lt (label a) (label b)) [
          | inl less ↦ labels_before key label (λ p. p.0) all sorted numbered moved up stable a b (before_from (map key all) a b there) (before_to (map key all) a b there) less
          | inr more ↦ places_before key label (λ p. p.0) all sorted numbered moved up stable a b there (omega (arith, l, more))
        ]
    | inr next ↦
        let r = chain_in a b next in
        labels_before key label (λ p. p.0) all sorted numbered moved up stable a b r.0 r.1 (chain_rises same_entry same_entry-sound same_entry-refl chain g label chain_once labels go a b next)
  ])

  pub added : IsInOrder new × AddsChain chain g new
  added = (
    record { once = once_to (nodes new) new_once; forward = forward },
    record {
      nodes_are = λ a. (
        (λ c. elim (nodes_to same_entry same_entry-sound same_entry-refl chain g a (has_from (nodes both) a (Contains-permutation (nodes new) (nodes both) a (IsPermutation-sym (nodes both) (nodes new) moved_keys) c))) [
          | inl h ↦ inl (contains_from (nodes g) a h)
          | inr h ↦ inr (contains_from chain a h)
        ]),
        (λ h. Contains-permutation (nodes both) (nodes new) a moved_keys (contains_from (nodes both) a (nodes_from same_entry same_entry-sound same_entry-refl chain g a (elim h [ inl c ↦ inl (has_from (nodes g) a c) | inr c ↦ inr (has_from chain a c) ])))),
      );
      reach = linking EntryKey g new chain once edges;
    },
  )
