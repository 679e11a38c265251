-- A merge of a level by its patch: the edges of the result, its order, and what it is of the old graph.
use Rattle.std.proofs.Common.{◌≡◌, refl, ap, ◌∙◌, sym, subst, List, [], ◌∷◌, ◌++◌, ℕ, zero, suc, ◌+◌, Bool, false, length, take, drop, map, inl, inr, ◌⊎◌, arith}
use Rattle.std.specs.Prelude.{Option, Some, None, Contains, ◌↔◌}
use Rattle.rd_keys.specs.declared.entry.EntryKey.{EntryKey}
use Rattle.rd_graph.specs.Orders as order
use Rattle.rd_graph.specs.Orders.{Before}
use Rattle.rd_graph.specs.Graphs.{Graph, nodes, Precedes, Next, Stitch, Hop, here, over, IsInOrder, Drops, AddsChain}
use Rattle.rd_graph.specs.Gathered.{gathered, arranged, IsLine}
use Rattle.rd_graph.specs.Laws.{Full}
use Rattle.rd_graph.specs.Names.{place_of, same_entry}
use Rattle.rd_graph.specs.Internal.Passes.{stitch_pass}
use Rattle.rd_graph.specs.Patches.{with_list, with_lists, not_found, found_in, is_gone, IsStill, CanBePatched, IsRelisted, IsArranged, FitsPatch, IsPatched}
use Rattle.rd_graph.specs.Internal.MadeNodes.{made_after}
use Rattle.rd_graph.specs.Internal.Seen.{seen}
use Rattle.rd_graph.specs.declared.graph.Node.{Node}
use Rattle.rd_graph.proofs.Lists.Listing.{Has, Once, has_from, contains_from, before_to, has_left, has_right, has_either, has_map, map_has, once_join}
use Rattle.rd_graph.proofs.Reaching.Calls.{once_of, linking}
use Rattle.rd_graph.proofs.Reaching.Chains.{next_to}
use Rattle.rd_graph.proofs.Reaching.Dropping.{sorted_from, dropped, nodes_append}
use Rattle.rd_graph.proofs.Lists.Entries.{same_entry-sound, same_entry-refl, place_none}
use Rattle.rd_graph.proofs.Patches.MadeNodes.{Edge, made_names, not_found_once, not_found_none, made_next_edge, next_edge_made}
use Rattle.rd_graph.proofs.Reaching.OnePass.{passing}
use Rattle.rd_graph.proofs.Patches.PutInPlace.{gathered_map}

module _ {E : Type 0} where
  -- ---- edges by membership

  edge_of : (g : Graph E) (a b : E) → Precedes g a b → Edge g a b
  edge_of g a b h = (h.0, has_from g (b, h.0) h.1, has_from h.0 a h.2)

  of_edge : (g : Graph E) (a b : E) → Edge g a b → Precedes g a b
  of_edge g a b h = (h.0, contains_from g (b, h.0) h.1, contains_from h.0 a h.2)

  -- ---- new lists and lines

  with_list_names : (i : ℕ) (ps : List E) (g : Graph E) → nodes (with_list i ps g) ≡ nodes g
  with_list_names i ps [] = refl
  with_list_names zero ps (x ∷ xs) = refl
  with_list_names (suc i) ps (x ∷ xs) = ap (λ ns. x.0 ∷ ns) (with_list_names i ps xs)

  pub with_lists_names : (ls : List (ℕ × List E)) (g : Graph E) → nodes (with_lists ls g) ≡ nodes g
  with_lists_names [] g = refl
  with_lists_names (l ∷ ls) g = with_lists_names ls (with_list l.0 l.1 g) ∙ with_list_names l.0 l.1 g

  arranged_names : (line : Option (List ℕ)) (g : Graph E) → nodes (arranged line g) ≡ arranged line (nodes g)
  arranged_names None g = refl
  arranged_names (Some line) g = sym (gathered_map {S = E × List E} (λ x. x.0) line g)

module _ {T : Type 0} where
  one_from : (p : ℕ) (xs : List T) (a : T) → Has (take 1 (drop p xs)) a → Has xs a
  one_from zero [] a h = h
  one_from (suc p) [] a h = h
  one_from zero (x ∷ xs) a (inl e) = inl e
  one_from zero (x ∷ xs) a (inr h) = absurd h
  one_from (suc p) (x ∷ xs) a h = inr (one_from p xs a h)

  gathered_from : (ps : List ℕ) (xs : List T) (a : T) → Has (gathered ps xs) a → Has xs a
  gathered_from [] xs a h = absurd h
  gathered_from (p ∷ ps) xs a h = elim (has_either (take 1 (drop p xs)) (gathered ps xs) a h) [ inl k ↦ one_from p xs a k | inr k ↦ gathered_from ps xs a k ]

  arranged_from : (line : Option (List ℕ)) (xs : List T) (a : T) → Has (arranged line xs) a → Has xs a
  arranged_from None xs a h = h
  arranged_from (Some line) xs a h = gathered_from line xs a h

module _ {E : Type 0} where
  name_of : (g : Graph E) (b : E) (ps : List E) → Has g (b, ps) → Has (nodes g) b
  name_of g b ps h = has_map {A = E × List E} (λ x. x.0) g (b, ps) h

  -- where each node is once, a name has one list
  one_list : (g : Graph E) (b : E) (ps qs : List E) → Once (nodes g) → Has g (b, ps) → Has g (b, qs) → ps ≡ qs
  one_list [] b ps qs o h k = absurd h
  one_list (x ∷ xs) b ps qs o (inl h) (inl k) = ap (λ y. y.1) (sym h ∙ k)
  one_list (x ∷ xs) b ps qs o (inl h) (inr k) = absurd (o.0 (subst (λ (z : E). Has (nodes xs) z) (sym (ap (λ y. y.0) h)) (name_of xs b qs k)))
  one_list (x ∷ xs) b ps qs o (inr h) (inl k) = absurd (o.0 (subst (λ (z : E). Has (nodes xs) z) (sym (ap (λ y. y.0) k)) (name_of xs b ps h)))
  one_list (x ∷ xs) b ps qs o (inr h) (inr k) = one_list xs b ps qs o.1 h k

  -- a node of a line has the edges that it had
  edges_arranged : (line : Option (List ℕ)) (g : Graph E) (a b : E) → Once (nodes g) → Has (nodes (arranged line g)) b → Edge g a b → Edge (arranged line g) a b
  edges_arranged line g a b o h e =
      let n = map_has {A = E × List E} (λ x. x.0) (arranged line g) b h in
      let there : Has (arranged line g) (b, n.0.1) = subst (λ (z : E). Has (arranged line g) (z, n.0.1)) n.2 n.1 in
      let same : e.0 ≡ n.0.1 = one_list g b e.0 n.0.1 o e.1 (arranged_from line g (b, n.0.1) there) in
      (n.0.1, there, subst (λ (ps : List E). Has ps a) same e.2)

  arranged_edges : (line : Option (List ℕ)) (g : Graph E) (a b : E) → Edge (arranged line g) a b → Has (nodes (arranged line g)) b × Edge g a b
  arranged_edges line g a b e = (name_of (arranged line g) b e.0 e.1, (e.0, arranged_from line g (b, e.0) e.1, e.2))

  edge_either : (us vs : Graph E) (a b : E) → Edge (us ++ vs) a b → Edge us a b ⊎ Edge vs a b
  edge_either us vs a b e = elim (has_either us vs (b, e.0) e.1) [ inl h ↦ inl (e.0, h, e.2) | inr h ↦ inr (e.0, h, e.2) ]

  edge_left : (us vs : Graph E) (a b : E) → Edge us a b → Edge (us ++ vs) a b
  edge_left us vs a b e = (e.0, has_left us vs (b, e.0) e.1, e.2)

  edge_right : (us vs : Graph E) (a b : E) → Edge vs a b → Edge (us ++ vs) a b
  edge_right us vs a b e = (e.0, has_right us vs (b, e.0) e.1, e.2)

  -- a stitch ends at a node
  hop_end : (g : Graph E) (gone : E → Bool) (a b : E) → Hop (Precedes g) gone a b → Has (nodes g) b
  hop_end g gone a b (here s) = name_of g b s.0 (has_from g (b, s.0) s.1)
  hop_end g gone a b (over {c = c} s t h) = hop_end g gone c b h

  length_nodes : (g : Graph E) → length (nodes g) ≡ length g
  length_nodes [] = refl
  length_nodes (x ∷ xs) = ap suc (length_nodes xs)

-- ---- a merge

module _ (gone : List ℕ) (chain : List EntryKey) (found : List (Option ℕ)) (g : Graph EntryKey) (lists : List (ℕ × List EntryKey)) (line : Option (List ℕ)) (can : CanBePatched gone chain found g)
    (sound : IsInOrder g) (relisted : IsRelisted gone chain g lists) (lined : IsArranged gone chain found g line) where
  abbrev goes : EntryKey → Bool
  goes = is_gone gone g

  abbrev listed : Graph EntryKey
  listed = with_lists lists g

  abbrev made : Graph EntryKey
  made = made_after [] chain found

  abbrev all : Graph EntryKey
  all = listed ++ made

  abbrev new : Graph EntryKey
  new = arranged line all

  abbrev names : List EntryKey
  names = arranged line (nodes g ++ not_found chain found)

  abbrev dropped_graph : Graph EntryKey
  dropped_graph = stitch_pass same_entry goes [] g

  chain_once : Once chain
  chain_once = once_of chain can.once

  old_once : Once (nodes g)
  old_once = once_of (nodes g) sound.once

  all_names : nodes all ≡ nodes g ++ not_found chain found
  all_names = nodes_append same_entry goes listed made ∙ ap (λ ns. ns ++ nodes made) (with_lists_names lists g) ∙ ap (λ ns. nodes g ++ ns) (made_names [] chain found)

  new_names : nodes new ≡ names
  new_names = arranged_names line all ∙ ap (arranged line) all_names

  -- a made node is no old one
  not_both : (a : EntryKey) → Has (nodes g) a → Has (not_found chain found) a → ⊥
  not_both a h k =
      let m : Has (not_found chain (found_in chain g)) a = subst (λ (f : List (Option ℕ)). Has (not_found chain f) a) can.found_are k in
      place_none same_entry same_entry-sound same_entry-refl (nodes g) a (not_found_none (λ k. place_of same_entry (nodes g) k) chain a m) h

  all_once : Once (nodes all)
  all_once = subst Once (sym all_names) (once_join (nodes g) (not_found chain found) old_once (not_found_once chain found chain_once) not_both)

  full_of : (a b : EntryKey) → Edge new a b → Full g goes chain a b
  full_of a b e =
      let r = arranged_edges line all a b e in
      elim (edge_either listed made a b r.1) [
        | inl k ↦
            let old : Has (nodes g) b = subst (λ (ns : List EntryKey). Has ns b) (with_lists_names lists g) (name_of listed b k.0 k.1) in
            let stays : (goes b ≡ false) ⊎ Contains chain b = elim ((lined.names b).0 (contains_from names b (subst (λ (ns : List EntryKey). Has ns b) new_names r.0))) [ inl s ↦ inl s.1 | inr s ↦ inr s ] in
            (relisted.edges a b (contains_from (nodes g) b old) stays).0 (of_edge listed a b k)
        | inr k ↦ inr (made_next_edge chain found a b k)
      ]

  -- what a merge's edge goes to stands in the line
  end_of : (a b : EntryKey) → Full g goes chain a b → (Contains (nodes g) b × (goes b ≡ false)) ⊎ Contains chain b
  end_of a b (inl s) = inl (contains_from (nodes g) b (hop_end g goes a b s.hop), s.second)
  end_of a b (inr n) = inr (contains_from chain b (before_to chain a b (next_to chain a b n)))

  in_all : (a b : EntryKey) → Full g goes chain a b → Has (nodes g) b ⊎ Has (not_found chain found) b → Edge all a b
  in_all a b f (inl h) =
      let stays : (goes b ≡ false) ⊎ Contains chain b = elim (end_of a b f) [ inl s ↦ inl s.1 | inr s ↦ inr s ] in
      edge_left listed made a b (edge_of listed a b ((relisted.edges a b (contains_from (nodes g) b h) stays).1 f))
  in_all a b (inl s) (inr h) = absurd (not_both b (hop_end g goes a b s.hop) h)
  in_all a b (inr n) (inr h) = edge_right listed made a b (next_edge_made chain found a b chain_once n h)

  of_full : (a b : EntryKey) → Full g goes chain a b → Edge new a b
  of_full a b f =
      let there : Has names b = has_from names b ((lined.names b).1 (end_of a b f)) in
      let here : Has (nodes new) b = subst (λ (ns : List EntryKey). Has ns b) (sym new_names) there in
      edges_arranged line all a b all_once here (in_all a b f (has_either (nodes g) (not_found chain found) b (subst (λ (ns : List EntryKey). Has ns b) all_names (from_line b here))))
    where
      from_line : (b : EntryKey) → Has (nodes new) b → Has (nodes all) b
      from_line b h = arranged_from line (nodes all) b (subst (λ (ns : List EntryKey). Has ns b) (arranged_names line all) h)

  edges : (a b : EntryKey) → Precedes new a b ↔ Full g goes chain a b
  edges a b = ((λ s. full_of a b (edge_of new a b s)), (λ f. of_edge new a b (of_full a b f)))

  stitches : (a b : EntryKey) → Precedes dropped_graph a b ↔ Stitch (Precedes g) goes a b
  stitches = passing EntryKey same_entry goes g same_entry-sound same_entry-refl (sorted_from same_entry goes g [] g [] old_once sound.forward refl (λ a. ((λ h. h), (λ h. h))))

  merged_edges : (a b : EntryKey) → Precedes new a b ↔ (Precedes dropped_graph a b ⊎ Next chain a b)
  merged_edges a b = (
    (λ s. elim ((edges a b).0 s) [ inl t ↦ inl ((stitches a b).1 t) | inr n ↦ inr n ]),
    (λ s. (edges a b).1 (elim s [ inl t ↦ inl ((stitches a b).0 t) | inr n ↦ inr n ])),
  )

  -- what drop_nodes would give
  drops : Drops goes g dropped_graph
  drops = (dropped same_entry goes same_entry-sound same_entry-refl g sound).1

  adds : AddsChain chain dropped_graph new
  adds = record {
    nodes_are = λ a. (
      (λ c. elim ((lined.names a).0 (subst (λ (ns : List EntryKey). Contains ns a) new_names c)) [ inl s ↦ inl ((drops.nodes_are a).1 s) | inr s ↦ inr s ]),
      (λ s. subst (λ (ns : List EntryKey). Contains ns a) (sym new_names) ((lined.names a).1 (elim s [ inl d ↦ inl ((drops.nodes_are a).0 d) | inr k ↦ inr k ]))),
    );
    reach = linking EntryKey dropped_graph new chain can.once merged_edges;
  }

  in_order : IsInOrder new
  in_order = record {
    once = subst order.Once (sym new_names) lined.once;
    forward = λ a b s. subst (λ (ns : List EntryKey). Before ns a b) (sym new_names) (lined.forward a b ((edges a b).0 s));
  }

  made_length : length made ≡ length (not_found chain found)
  made_length = sym (length_nodes made) ∙ ap length (made_names [] chain found)

  made_still : (o : Option (List ℕ)) → IsStill {E = EntryKey} o (map (λ k. (k, [])) (not_found chain found)) → IsStill o made
  made_still None h = none_long made (made_length ∙ no_names (not_found chain found) h)
    where
      none_long : (xs : Graph EntryKey) → length xs ≡ 0 → xs ≡ []
      none_long [] e = refl
      none_long (x ∷ xs) e = absurd (omega (arith, e))

      no_names : (xs : List EntryKey) → map {B = EntryKey × List EntryKey} (λ k. (k, [])) xs ≡ [] → length xs ≡ 0
      no_names [] e = refl
      no_names (x ∷ xs) e = absurd (cc)
  made_still (Some l) h = tt

  pub patch_fits : FitsPatch (lists, (made, line)) g
  patch_fits = record {
    lists = relisted.within;
    line = subst (λ (n : ℕ). IsLine line (length g + n)) (sym made_length) lined.places;
    still = made_still line lined.still;
    sound = in_order;
  }

  pub is_patched : IsPatched gone chain found g (lists, (made, line))
  is_patched = record { made_are = made_names [] chain found; dropped = dropped_graph; drops = drops; adds = adds }

-- the same, as the code has it
pub patched_by : (gone : List ℕ) (chain : List EntryKey) (found : List (Option ℕ)) (self : Graph EntryKey) (nodes_now nodes_old : List Node) (lists : List (ℕ × List EntryKey)) (nodes_made : Graph EntryKey) (line : Option (List ℕ))
    → CanBePatched gone chain found self → IsInOrder (seen nodes_old) → seen nodes_old ≡ self → nodes_now ≡ nodes_old → IsRelisted gone chain (seen nodes_now) lists → IsArranged gone chain found self line
    → nodes_made ≡ made_after [] chain found → FitsPatch (lists, (nodes_made, line)) self × IsPatched gone chain found self (lists, (nodes_made, line))
patched_by gone chain found self nodes_now nodes_old lists nodes_made line can sound view same relisted lined is =
    let s : IsInOrder self = subst IsInOrder view sound in
    let r : IsRelisted gone chain self lists = subst (λ (h : Graph EntryKey). IsRelisted gone chain h lists) (ap seen same ∙ view) relisted in
    subst (λ (m : Graph EntryKey). FitsPatch (lists, (m, line)) self × IsPatched gone chain found self (lists, (m, line))) (sym is) (patch_fits gone chain found self lists line can s r lined, is_patched gone chain found self lists line can s r lined)
