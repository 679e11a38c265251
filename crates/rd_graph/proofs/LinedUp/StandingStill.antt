-- A merge in which every node may stay at its place.
use Rattle.std.proofs.Common.{◌≡◌, refl, ap, ◌∙◌, sym, subst, ℕ, true, false, List, [], ◌++◌, length, map, get_or, Option, None, inl, inr, ◌⊎◌, arith}
use Rattle.std.specs.Prelude.{◌↔◌, Contains}
use Rattle.std.proofs.lemmas.List.{append-nil}
use Rattle.rd_keys.specs.declared.entry.EntryKey.{EntryKey}
use Rattle.rd_graph.specs.Graphs.{Graph, nodes, IsInOrder, Precedes}
use Rattle.rd_graph.specs.Orders as spec
use Rattle.rd_graph.specs.Orders.{Before, last}
use Rattle.rd_graph.specs.Laws.{Full}
use Rattle.rd_graph.specs.Gathered.{gathered}
use Rattle.rd_graph.specs.Names.{place_of, same_entry}
use Rattle.rd_graph.specs.Patches.{CanBePatched, IsArranged, is_gone, not_found}
use Rattle.rd_graph.specs.Internal.Walks.{counted, RisesTo}
use Rattle.rd_graph.specs.Internal.Seen.{seen}
use Rattle.rd_graph.specs.declared.graph.Node.{Node}
use Rattle.rd_graph.proofs.Lists.Listing.{Has, cases, has_from, contains_from}
use Rattle.rd_graph.proofs.Reaching.Calls.{once_of}
use Rattle.rd_graph.proofs.Reaching.Chains.{stitched, next_to, forward_all}
use Rattle.rd_graph.proofs.Lists.Entries.{same_entry-sound, same_entry-refl, in_has, has_get, place_some}
use Rattle.rd_graph.proofs.Lists.Gatherings.{AreBelow, at_below, below_has}
use Rattle.rd_graph.proofs.LinedUp.LineFacts.{node_length, seen_length}
use Rattle.rd_graph.proofs.LinedUp.ChainPlaces.{gathered_has, counted_has, all_found, found_at, rising_before}

module _ (gone : List ℕ) (chain : List EntryKey) (found : List (Option ℕ)) (g : Graph EntryKey) (can : CanBePatched gone chain found g) (sound : IsInOrder g) where
  pub gone_below : AreBelow (length (nodes g)) gone
  gone_below = at_below (length (nodes g)) gone (λ k l. let e = node_length g in let u = can.within k l in omega (arith, e, u))

  -- an old node that goes, by its place
  pub gone_at : (a : EntryKey) → is_gone gone g a ≡ true → (p : ℕ) × Has gone p × (get_or (nodes g) p a ≡ a)
  gone_at a t = gathered_has gone (nodes g) a gone_below (in_has same_entry same_entry-sound (gathered gone (nodes g)) a t)

  pub stitch_before : (a b : EntryKey) → Full g (is_gone gone g) chain a b → (Before (nodes g) a b × (is_gone gone g a ≡ false) × (is_gone gone g b ≡ false)) ⊎ Before chain a b
  stitch_before a b (inl s) =
      let r = stitched (Precedes g) (is_gone gone g) a b (last s) in
      inl (forward_all (Precedes g) (nodes g) (once_of (nodes g) sound.once) sound.forward a b r.0, r.1, r.2)
  stitch_before a b (inr s) = inr (next_to chain a b s)

  abbrev place : EntryKey → Option ℕ
  place k = place_of same_entry (nodes g) k

  abbrev n : ℕ
  n = length g

  pub stands_still : (places : List ℕ) → places ≡ counted n found → RisesTo n 0 places → ((p : ℕ) → Contains gone p → Contains places p) → IsArranged gone chain found g None
  stands_still places is up among = record {
    places = tt;
    still = rw none refl;
    once = subst spec.Once (sym line_is) sound.once;
    names = λ a. subst (λ (ks : List EntryKey). Contains ks a ↔ ((Contains (nodes g) a × (is_gone gone g a ≡ false)) ⊎ Contains chain a)) (sym line_is) (
      (λ c. elim (cases (is_gone gone g a)) [ inl t ↦ inr (contains_from chain a (gone_in_chain a t)) | inr f ↦ inl (c, f) ]),
      (λ h. elim h [ inl k ↦ k.0 | inr k ↦ contains_from (nodes g) a (chain_in a (has_from chain a k)) ]),
    );
    forward = λ a b s. subst (λ (ks : List EntryKey). Before ks a b) (sym line_is) (elim (stitch_before a b s) [ inl h ↦ h.0 | inr h ↦ rising_before (nodes g) n 0 n chain a b rising (omega arith) h ]);
  }
    where
      whole : places ≡ counted n (map place chain)
      whole = is ∙ ap (λ fs. counted n fs) can.found_are

      rising : RisesTo n 0 (counted n (map place chain))
      rising = subst (λ (ps : List ℕ). RisesTo n 0 ps) whole up

      none : not_found chain found ≡ []
      none = ap (λ fs. not_found chain fs) can.found_are ∙ all_found (nodes g) n 0 n chain rising (omega arith)

      line_is : nodes g ++ not_found chain found ≡ nodes g
      line_is = ap (λ ks. nodes g ++ ks) none ∙ append-nil (nodes g)

      chain_in : (a : EntryKey) → Has chain a → Has (nodes g) a
      chain_in a h =
          let q = found_at (nodes g) n 0 n chain a rising (omega arith) h in
          let p = place_some same_entry same_entry-sound same_entry-refl (nodes g) a q.0 q.1 in
          subst (λ (z : EntryKey). Has (nodes g) z) (p.1 a) (has_get (nodes g) q.0 a p.0)

      gone_in_chain : (a : EntryKey) → is_gone gone g a ≡ true → Has chain a
      gone_in_chain a t =
          let q = gone_at a t in
          let l = below_has (length (nodes g)) gone q.0 gone_below q.1 in
          let e = node_length g in
          let there : Has (counted n (map place chain)) q.0 = subst (λ (ps : List ℕ). Has ps q.0) whole (has_from places q.0 (among q.0 (contains_from gone q.0 q.1))) in
          let k = counted_has (nodes g) n chain q.0 there (omega (arith, l, e)) in
          let p = place_some same_entry same_entry-sound same_entry-refl (nodes g) k.0 q.0 k.2 in
          subst (λ (z : EntryKey). Has chain z) (sym (p.1 a) ∙ q.2) k.1

  pub counted_of : (ns now : List Node) (places given : List ℕ) → seen ns ≡ g → now ≡ ns → given ≡ places → places ≡ counted (length now) found → given ≡ counted n found
  counted_of ns now places given seen_is now_is given_is is = given_is ∙ is ∙ ap (λ m. counted m found) (ap length now_is ∙ sym (seen_length ns) ∙ ap length seen_is)

  pub still_line : (ns now : List Node) (places given : List ℕ) (end : ℕ) → seen ns ≡ g → now ≡ ns → given ≡ places → places ≡ counted (length now) found → end ≡ length now
      → RisesTo end 0 given → ((p : ℕ) → Contains gone p → Contains given p) → IsArranged gone chain found g None
  still_line ns now places given end seen_is now_is given_is is end_is up among =
      stands_still given (counted_of ns now places given seen_is now_is given_is is) (subst (λ m. RisesTo m 0 given) (end_is ∙ ap length now_is ∙ sym (seen_length ns) ∙ ap length seen_is) up) among
