-- A graph with trimmed lists of predecessors: it reaches as before.
use Rattle.std.proofs.Common.{◌≡◌, refl, ap, ◌∙◌, sym, subst, ℕ, zero, suc, ◌<◌, List, [], ◌∷◌, ◌++◌, length, take, drop, inl, inr, ◌⊎◌}
use Rattle.std.specs.Prelude.{Option, Some, None, Contains, ◌↔◌}
use Rattle.rd_keys.specs.declared.entry.EntryKey.{EntryKey}
use Rattle.rd_graph.specs.Orders as order
use Rattle.rd_graph.specs.Orders.{Before, last}
use Rattle.rd_graph.specs.Graphs.{Graph, nodes, Precedes, Reaches, IsInOrder, AddsChain}
use Rattle.rd_graph.specs.Gathered.{gathered, arranged}
use Rattle.rd_graph.specs.Names.{place_of, same_entry}
use Rattle.rd_graph.specs.Patches.{with_list, with_lists, AreWithin, FitsPatch, IsPatched, patched}
use Rattle.rd_graph.specs.Internal.Trimming.{trimmed, all_trimmed}
use Rattle.rd_graph.proofs.Lists.Listing.{Has, has_from, contains_from, map_has}
use Rattle.rd_graph.proofs.Reaching.Calls.{once_of, pruning}
use Rattle.rd_graph.proofs.Reaching.Chains.{place_in, place_before}
use Rattle.rd_graph.proofs.Lists.Entries.{same_entry-sound, same_entry-refl}
use Rattle.rd_graph.proofs.Patches.Thinned.Trims.{Trims, trims, trims_same}

module _ (chain : List EntryKey) where
  abbrev Shorter : List EntryKey → List EntryKey → Type 0
  Shorter ps qs = Trims same_entry same_entry-sound same_entry-refl chain ps qs

  abbrev short : List (ℕ × List EntryKey) → List (ℕ × List EntryKey)
  short ls = all_trimmed (place_of same_entry chain) ls

  -- the same nodes, each with a list that is as long or shorter
  abbrev Thinner : Graph EntryKey → Graph EntryKey → Type 0
  Thinner [] [] = Unit {0}
  Thinner [] (y ∷ ys) = ⊥
  Thinner (x ∷ xs) [] = ⊥
  Thinner (x ∷ xs) (y ∷ ys) = (x.0 ≡ y.0) × Shorter x.1 y.1 × Thinner xs ys

  thinner_same : (g : Graph EntryKey) → Thinner g g
  thinner_same [] = tt
  thinner_same (x ∷ xs) = (refl, trims_same same_entry same_entry-sound same_entry-refl chain x.1, thinner_same xs)

  thinner_list : (i : ℕ) (ps qs : List EntryKey) (g h : Graph EntryKey) → Shorter ps qs → Thinner g h → Thinner (with_list i ps g) (with_list i qs h)
  thinner_list i ps qs [] [] s t = tt
  thinner_list i ps qs [] (y ∷ ys) s t = absurd t
  thinner_list i ps qs (x ∷ xs) [] s t = absurd t
  thinner_list zero ps qs (x ∷ xs) (y ∷ ys) s t = (t.0, s, t.2)
  thinner_list (suc i) ps qs (x ∷ xs) (y ∷ ys) s t = (t.0, t.1, thinner_list i ps qs xs ys s t.2)

  thinner_lists : (ls : List (ℕ × List EntryKey)) (g h : Graph EntryKey) → Thinner g h → Thinner (with_lists (short ls) g) (with_lists ls h)
  thinner_lists [] g h t = t
  thinner_lists (l ∷ ls) g h t =
      thinner_lists ls (with_list l.0 (trimmed (place_of same_entry chain) l.1) g) (with_list l.0 l.1 h)
      (thinner_list l.0 (trimmed (place_of same_entry chain) l.1) l.1 g h (trims same_entry same_entry-sound same_entry-refl chain l.1) t)

  thinner_join : (us vs xs ys : Graph EntryKey) → Thinner us vs → Thinner xs ys → Thinner (us ++ xs) (vs ++ ys)
  thinner_join [] [] xs ys s t = t
  thinner_join [] (v ∷ vs) xs ys s t = absurd s
  thinner_join (u ∷ us) [] xs ys s t = absurd s
  thinner_join (u ∷ us) (v ∷ vs) xs ys s t = (s.0, s.1, thinner_join us vs xs ys s.2 t)

  thinner_one : (p : ℕ) (xs ys : Graph EntryKey) → Thinner xs ys → Thinner (take 1 (drop p xs)) (take 1 (drop p ys))
  thinner_one zero [] [] t = tt
  thinner_one (suc p) [] [] t = tt
  thinner_one p [] (y ∷ ys) t = absurd t
  thinner_one p (x ∷ xs) [] t = absurd t
  thinner_one zero (x ∷ xs) (y ∷ ys) t = (t.0, t.1, tt)
  thinner_one (suc p) (x ∷ xs) (y ∷ ys) t = thinner_one p xs ys t.2

  thinner_gathered : (ps : List ℕ) (xs ys : Graph EntryKey) → Thinner xs ys → Thinner (gathered ps xs) (gathered ps ys)
  thinner_gathered [] xs ys t = tt
  thinner_gathered (p ∷ ps) xs ys t = thinner_join (take 1 (drop p xs)) (take 1 (drop p ys)) (gathered ps xs) (gathered ps ys) (thinner_one p xs ys t) (thinner_gathered ps xs ys t)

  thinner_arranged : (line : Option (List ℕ)) (xs ys : Graph EntryKey) → Thinner xs ys → Thinner (arranged line xs) (arranged line ys)
  thinner_arranged None xs ys t = t
  thinner_arranged (Some line) xs ys t = thinner_gathered line xs ys t

  -- ---- what that keeps

  thinner_names : (new old : Graph EntryKey) → Thinner new old → nodes new ≡ nodes old
  thinner_names [] [] t = refl
  thinner_names [] (y ∷ ys) t = absurd t
  thinner_names (x ∷ xs) [] t = absurd t
  thinner_names (x ∷ xs) (y ∷ ys) t = ap (λ n. n ∷ nodes xs) t.0 ∙ ap (λ ns. y.0 ∷ ns) (thinner_names xs ys t.2)

  thinner_from : (new old : Graph EntryKey) (b : EntryKey) (ps : List EntryKey) → Thinner new old → Has new (b, ps) → (qs : List EntryKey) × Has old (b, qs) × Shorter ps qs
  thinner_from [] old b ps t h = absurd h
  thinner_from (x ∷ xs) [] b ps t h = absurd t
  thinner_from (x ∷ xs) (y ∷ ys) b ps t (inl e) = (y.1, inl (ap (λ z. (z, y.1)) (sym t.0 ∙ ap (λ z. z.0) e)), subst (λ (z : List EntryKey). Shorter z y.1) (ap (λ z. z.1) e) t.1)
  thinner_from (x ∷ xs) (y ∷ ys) b ps t (inr h) = let r = thinner_from xs ys b ps t.2 h in (r.0, inr r.1, r.2)

  thinner_to : (new old : Graph EntryKey) (b : EntryKey) (qs : List EntryKey) → Thinner new old → Has old (b, qs) → (ps : List EntryKey) × Has new (b, ps) × Shorter ps qs
  thinner_to new [] b qs t h = absurd h
  thinner_to [] (y ∷ ys) b qs t h = absurd t
  thinner_to (x ∷ xs) (y ∷ ys) b qs t (inl e) = (x.1, inl (ap (λ z. (z, x.1)) (t.0 ∙ ap (λ z. z.0) e)), subst (λ (z : List EntryKey). Shorter x.1 z) (ap (λ z. z.1) e) t.1)
  thinner_to (x ∷ xs) (y ∷ ys) b qs t (inr h) = let r = thinner_to xs ys b qs t.2 h in (r.0, inr r.1, r.2)

  fewer : (new old : Graph EntryKey) → Thinner new old → (a b : EntryKey) → Precedes new a b → Precedes old a b
  fewer new old t a b s =
      let r = thinner_from new old b s.0 t (has_from new (b, s.0) s.1) in
      (r.0, contains_from old (b, r.0) r.1, contains_from r.0 a (r.2.0 a (has_from s.0 a s.2)))

  implied : (new old : Graph EntryKey) → Thinner new old → ((a c : EntryKey) → Before chain a c → Reaches old a c)
      → (a b : EntryKey) → Precedes old a b → Precedes new a b ⊎ ((c : EntryKey) × Reaches old a c × Reaches old c b)
  implied new old t along a b s =
      let r = thinner_to new old b s.0 t (has_from old (b, s.0) s.1) in
      elim (r.2.1 a (has_from s.0 a s.2)) [
        | inl h ↦ inl (r.0, contains_from new (b, r.0) r.1, contains_from r.0 a h)
        | inr k ↦ inr (k.0, along a k.0 k.2, last (s.0, s.1, contains_from s.0 k.0 k.1))
      ]

  same_reach : (new old : Graph EntryKey) → Thinner new old → IsInOrder old → ((a c : EntryKey) → Before chain a c → Reaches old a c) → (a b : EntryKey) → Reaches new a b ↔ Reaches old a b
  same_reach new old t sound along =
      pruning EntryKey old new (place_in same_entry same_entry-sound same_entry-refl (nodes old))
      (λ a b s. place_before same_entry same_entry-sound same_entry-refl (nodes old) a b (once_of (nodes old) sound.once) (sound.forward a b s))
      (fewer new old t) (implied new old t along)

  in_order : (new old : Graph EntryKey) → Thinner new old → IsInOrder old → IsInOrder new
  in_order new old t sound = record {
    once = subst order.Once (sym (thinner_names new old t)) sound.once;
    forward = λ a b s. subst (λ (ns : List EntryKey). Before ns a b) (sym (thinner_names new old t)) (sound.forward a b (fewer new old t a b s));
  }

  adds : (dropped new old : Graph EntryKey) → Thinner new old → IsInOrder old → AddsChain chain dropped old → AddsChain chain dropped new
  adds dropped new old t sound was =
      let same = same_reach new old t sound (λ a c h. (was.reach a c).1 (last (inr h))) in
      record {
        nodes_are = λ a. (
          (λ c. (was.nodes_are a).0 (subst (λ (ns : List EntryKey). Contains ns a) (thinner_names new old t) c)),
          (λ s. subst (λ (ns : List EntryKey). Contains ns a) (sym (thinner_names new old t)) ((was.nodes_are a).1 s)),
        );
        reach = λ a b. ((λ h. (was.reach a b).0 ((same a b).0 h)), (λ h. (same a b).1 ((was.reach a b).1 h)));
      }

  -- ---- a patch

  short_within : (ls : List (ℕ × List EntryKey)) (g : Graph EntryKey) → AreWithin ls g → AreWithin (short ls) g
  short_within ls g w m c =
      let r = map_has {A = ℕ × List EntryKey} (λ l. (l.0, trimmed (place_of same_entry chain) l.1)) ls m (has_from (short ls) m c) in
      subst (λ (n : ℕ). n < length g) (ap (λ z. z.0) r.2) (w r.0 (contains_from ls r.0 r.1))

  module _ (lists : List (ℕ × List EntryKey)) (made : Graph EntryKey) (line : Option (List ℕ)) (g : Graph EntryKey) where
    thinner_patched : Thinner (patched (short lists, (made, line)) g) (patched (lists, (made, line)) g)
    thinner_patched = thinner_arranged line (with_lists (short lists) g ++ made) (with_lists lists g ++ made)
        (thinner_join (with_lists (short lists) g) (with_lists lists g) made made (thinner_lists lists g g (thinner_same g)) (thinner_same made))

    pub short_fits : FitsPatch (lists, (made, line)) g → FitsPatch (short lists, (made, line)) g
    short_fits was = record {
      lists = short_within lists g was.lists;
      line = was.line;
      still = was.still;
      sound = in_order (patched (short lists, (made, line)) g) (patched (lists, (made, line)) g) thinner_patched was.sound;
    }

    pub short_patched : (gone : List ℕ) (found : List (Option ℕ)) → FitsPatch (lists, (made, line)) g → IsPatched gone chain found g (lists, (made, line)) → IsPatched gone chain found g (short lists, (made, line))
    short_patched gone found fits was = record {
      made_are = was.made_are;
      dropped = was.dropped;
      drops = was.drops;
      adds = adds was.dropped (patched (short lists, (made, line)) g) (patched (lists, (made, line)) g) thinner_patched fits.sound was.adds;
    }

-- the same, as the code has it
pub short_by : (gone : List ℕ) (chain : List EntryKey) (found : List (Option ℕ)) (g made : Graph EntryKey) (lists now : List (ℕ × List EntryKey)) (line : Option (List ℕ))
    → now ≡ all_trimmed (place_of same_entry chain) lists → FitsPatch (lists, (made, line)) g × IsPatched gone chain found g (lists, (made, line))
    → FitsPatch (now, (made, line)) g × IsPatched gone chain found g (now, (made, line))
short_by gone chain found g made lists now line is was =
    subst (λ (ls : List (ℕ × List EntryKey)). FitsPatch (ls, (made, line)) g × IsPatched gone chain found g (ls, (made, line))) (sym is)
    (short_fits chain lists made line g was.0, short_patched chain lists made line g gone found was.0 was.1)
