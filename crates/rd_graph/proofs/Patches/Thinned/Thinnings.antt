-- A graph with thinner lists of predecessors: it reaches as before, and a patch of it is one of the graph that was.
use Rattle.std.proofs.Common.{◌≡◌, refl, ap, ◌∙◌, sym, subst, ℕ, zero, suc, ◌+◌, ◌<◌, ◌≤◌, Bool, List, [], ◌∷◌, ◌++◌, length, take, drop, get_or, map, inl, inr, ◌⊎◌, arith, append_assoc}
use Rattle.std.proofs.lemmas.List.{take_more, drop_more, append-nil}
use Rattle.std.specs.Prelude.{Option, Contains, ◌↔◌}
use Rattle.rd_keys.specs.declared.entry.EntryKey.{EntryKey}
use Rattle.rd_graph.specs.Orders as order
use Rattle.rd_graph.specs.Orders.{Before, last}
use Rattle.rd_graph.specs.Graphs.{Graph, nodes, Precedes, Reaches, IsInOrder, Drops, AddsChain}
use Rattle.rd_graph.specs.Gathered.{gathered, arranged, IsLine}
use Rattle.rd_graph.specs.Names.{is_in, place_of, same_entry}
use Rattle.rd_graph.specs.Patches.{PatchOf, with_list, with_lists, is_gone, AreWithin, CanBePatched, FitsPatch, IsPatched, patched}
use Rattle.rd_graph.specs.Internal.Relisting.{IsAt}
use Rattle.rd_graph.specs.Internal.Thinning.{AreImplied, Leaves, IsThinner, AreThinner, ThinsOne, IsThinned}
use Rattle.rd_graph.proofs.Lists.Listing.{Has, has_from, contains_from, has_either}
use Rattle.rd_graph.proofs.Reaching.Calls.{once_of, pruning}
use Rattle.rd_graph.proofs.Reaching.Chains.{place_in, place_before}
use Rattle.rd_graph.proofs.Lists.Entries.{same_entry-sound, same_entry-refl}
use Rattle.rd_graph.proofs.Patches.Marks.{take_whole}
use Rattle.rd_graph.proofs.Patches.PutInPlace.{with_lists-append}

module _ {E : Type 0} where
  pub thinner_same : (g : Graph E) (ps qs : List E) → ps ≡ qs → IsThinner g ps qs
  thinner_same g ps qs e = record { fewer = λ a c. subst (λ (xs : List E). Contains xs a) e c; implied = λ a c. inl (subst (λ (xs : List E). Contains xs a) (sym e) c) }

  pub thinner_left : (g : Graph E) (list names now left : List E) → now ≡ names → AreImplied g list names → Leaves now list left → IsThinner g left list
  thinner_left g list names now left e told leaves = record {
    fewer = leaves.fewer;
    implied = λ a c. elim (leaves.others a c) [ inl h ↦ inl h | inr h ↦ inr (told a (subst (λ (xs : List E). Contains xs a) e h)) ];
  }

  -- ---- node by node

  thinner_more : (g xs ys : Graph E) (x y : E × List E) → AreThinner g xs ys → x.0 ≡ y.0 → IsThinner g x.1 y.1 → AreThinner g (xs ++ x ∷ []) (ys ++ y ∷ [])
  thinner_more g [] [] x y t e s = (e, s, tt)
  thinner_more g [] (v ∷ vs) x y t e s = absurd t
  thinner_more g (u ∷ us) [] x y t e s = absurd t
  thinner_more g (u ∷ us) (v ∷ vs) x y t e s = (t.0, t.1, thinner_more g us vs x y t.2 e s)

  put_there : (xs : Graph E) (i : ℕ) (ps : List E) (x : E × List E) (rest : Graph E) → length xs ≡ i → with_list i ps (xs ++ x ∷ rest) ≡ xs ++ (x.0, ps) ∷ rest
  put_there [] zero ps x rest e = refl
  put_there [] (suc i) ps x rest e = absurd (omega (arith, e))
  put_there (y ∷ ys) zero ps x rest e = absurd (omega (arith, e))
  put_there (y ∷ ys) (suc i) ps x rest e = ap (λ zs. y ∷ zs) (put_there ys i ps x rest (omega (arith, e)))

  -- the nodes so far, of a graph
  pub record ThinSoFar (g : Graph E) (i : ℕ) (new : Graph E) (lists : List (ℕ × List E)) : Type 0 where
    pub count : length new ≡ i
    pub thinner : AreThinner g new (take i g)
    pub within : AreWithin lists g
    pub put : new ++ drop i g ≡ with_lists lists g

  pub thin_first : (g new : Graph E) (lists : List (ℕ × List E)) → new ≡ [] → lists ≡ [] → ThinSoFar g 0 new lists
  thin_first g new lists e f =
      subst (λ (xs : Graph E). ThinSoFar g 0 xs lists) (sym e) (subst (λ (ls : List (ℕ × List E)). ThinSoFar g 0 [] ls) (sym f)
      (record { count = refl; thinner = tt; within = λ l c. absurd (has_from [] l c); put = refl }))

  length_more : (xs : Graph E) (x : E × List E) → length (xs ++ x ∷ []) ≡ length xs + 1
  length_more [] x = refl
  length_more (y ∷ ys) x = let e = length_more ys x in omega (arith, e)

  pub thin_next : (g : Graph E) (i : ℕ) (x : E × List E) (now new : Graph E) (lists more : List (ℕ × List E)) → IsAt g i x → ThinSoFar g i now lists → ThinsOne g i x now new lists more → ThinSoFar g (i + 1) new more
  thin_next g i x now new lists more there was step = record {
    count = ap length step.put ∙ length_more now (x.0, step.before) ∙ ap (λ n. n + 1) was.count;
    thinner = subst (λ (xs : Graph E). AreThinner g xs (take (i + 1) g)) (sym step.put)
        (subst (λ (ys : Graph E). AreThinner g (now ++ (x.0, step.before) ∷ []) ys) (sym (take_more g i x there.0 ∙ ap (λ y. take i g ++ y ∷ []) there.1))
        (thinner_more g now (take i g) (x.0, step.before) x was.thinner refl step.thinner));
    within = elim step.listed [
      | inl s ↦ subst (λ (ls : List (ℕ × List E)). AreWithin ls g) (sym s.1) was.within
      | inr s ↦ λ l c. elim (has_either lists ((i, step.before) ∷ []) l (has_from (lists ++ (i, step.before) ∷ []) l (subst (λ (ls : List (ℕ × List E)). Contains ls l) s c))) [
        | inl h ↦ was.within l (contains_from lists l h)
        | inr h ↦ elim h [ inl e ↦ subst (λ (n : ℕ). n < length g) (ap (λ y. y.0) e) there.0 | inr n ↦ absurd n ]
      ]
    ];
    put = whole ∙ elim step.listed [
      | inl s ↦ ap (λ ps. now ++ (x.0, ps) ∷ drop (i + 1) g) s.0 ∙ was_put ∙ ap (λ ls. with_lists ls g) (sym s.1)
      | inr s ↦
          sym (put_there now i step.before x (drop (i + 1) g) was.count) ∙ ap (with_list i step.before) was_put
          ∙ sym (with_lists-append lists ((i, step.before) ∷ []) g) ∙ ap (λ ls. with_lists ls g) (sym s)
    ];
  }
    where
      whole : new ++ drop (i + 1) g ≡ now ++ (x.0, step.before) ∷ drop (i + 1) g
      whole = ap (λ xs. xs ++ drop (i + 1) g) step.put ∙ append_assoc now ((x.0, step.before) ∷ []) (drop (i + 1) g)

      was_put : now ++ x ∷ drop (i + 1) g ≡ with_lists lists g
      was_put = sym (ap (λ ys. now ++ ys) (drop_more g i x there.0 ∙ ap (λ y. y ∷ drop (i + 1) g) there.1)) ∙ was.put

  drop_whole : (xs : Graph E) (i : ℕ) → length xs ≤ i → drop i xs ≡ []
  drop_whole [] zero l = refl
  drop_whole [] (suc i) l = refl
  drop_whole (x ∷ xs) zero l = absurd (omega arith)
  drop_whole (x ∷ xs) (suc i) l = drop_whole xs i (omega arith)

  pub thin_all : (g : Graph E) (i : ℕ) (new : Graph E) (lists : List (ℕ × List E)) → length g ≤ i → ThinSoFar g i new lists → IsThinned g new lists
  thin_all g i new lists l was = record {
    thinner = subst (λ (ys : Graph E). AreThinner g new ys) (take_whole g i l) was.thinner;
    within = was.within;
    put = sym (append-nil new) ∙ sym (ap (λ ys. new ++ ys) (drop_whole g i l)) ∙ was.put;
  }

  -- ---- what that keeps

  pub thinner_names : (g new old : Graph E) → AreThinner g new old → nodes new ≡ nodes old
  thinner_names g [] [] t = refl
  thinner_names g [] (y ∷ ys) t = absurd t
  thinner_names g (x ∷ xs) [] t = absurd t
  thinner_names g (x ∷ xs) (y ∷ ys) t = ap (λ n. n ∷ nodes xs) t.0 ∙ ap (λ ns. y.0 ∷ ns) (thinner_names g xs ys t.2)

  thinner_from : (g new old : Graph E) (b : E) (ps : List E) → AreThinner g new old → Has new (b, ps) → (qs : List E) × Has old (b, qs) × IsThinner g ps qs
  thinner_from g [] old b ps t h = absurd h
  thinner_from g (x ∷ xs) [] b ps t h = absurd t
  thinner_from g (x ∷ xs) (y ∷ ys) b ps t (inl e) = (y.1, inl (ap (λ z. (z, y.1)) (sym t.0 ∙ ap (λ z. z.0) e)), subst (λ (z : List E). IsThinner g z y.1) (ap (λ z. z.1) e) t.1)
  thinner_from g (x ∷ xs) (y ∷ ys) b ps t (inr h) = let r = thinner_from g xs ys b ps t.2 h in (r.0, inr r.1, r.2)

  thinner_to : (g new old : Graph E) (b : E) (qs : List E) → AreThinner g new old → Has old (b, qs) → (ps : List E) × Has new (b, ps) × IsThinner g ps qs
  thinner_to g new [] b qs t h = absurd h
  thinner_to g [] (y ∷ ys) b qs t h = absurd t
  thinner_to g (x ∷ xs) (y ∷ ys) b qs t (inl e) = (x.1, inl (ap (λ z. (z, x.1)) (t.0 ∙ ap (λ z. z.0) e)), subst (λ (z : List E). IsThinner g x.1 z) (ap (λ z. z.1) e) t.1)
  thinner_to g (x ∷ xs) (y ∷ ys) b qs t (inr h) = let r = thinner_to g xs ys b qs t.2 h in (r.0, inr r.1, r.2)

  fewer : (g new : Graph E) → AreThinner g new g → (a b : E) → Precedes new a b → Precedes g a b
  fewer g new t a b s =
      let r = thinner_from g new g b s.0 t (has_from new (b, s.0) s.1) in
      (r.0, contains_from g (b, r.0) r.1, r.2.fewer a s.2)

  implied : (g new : Graph E) → AreThinner g new g → (a b : E) → Precedes g a b → Precedes new a b ⊎ ((c : E) × Reaches g a c × Reaches g c b)
  implied g new t a b s =
      let r = thinner_to g new g b s.0 t (has_from g (b, s.0) s.1) in
      elim (r.2.implied a s.2) [
        | inl h ↦ inl (r.0, contains_from new (b, r.0) r.1, h)
        | inr k ↦ inr (k.0, k.2, last (s.0, s.1, k.1))
      ]

  in_order : (g new : Graph E) → AreThinner g new g → IsInOrder g → IsInOrder new
  in_order g new t sound = record {
    once = subst order.Once (sym (thinner_names g new g t)) sound.once;
    forward = λ a b s. subst (λ (ns : List E). Before ns a b) (sym (thinner_names g new g t)) (sound.forward a b (fewer g new t a b s));
  }

module _ (g new : Graph EntryKey) (thin : AreThinner g new g) (sound : IsInOrder g) where
  same_reach : (a b : EntryKey) → Reaches new a b ↔ Reaches g a b
  same_reach =
      pruning EntryKey g new (place_in same_entry same_entry-sound same_entry-refl (nodes g))
      (λ a b s. place_before same_entry same_entry-sound same_entry-refl (nodes g) a b (once_of (nodes g) sound.once) (sound.forward a b s))
      (fewer g new thin) (implied g new thin)

  names : nodes new ≡ nodes g
  names = thinner_names g new g thin

  lengths : length new ≡ length g
  lengths = by g new thin
    where
      by : (ys xs : Graph EntryKey) → AreThinner g xs ys → length xs ≡ length ys
      by [] [] t = refl
      by (y ∷ ys) [] t = absurd t
      by [] (x ∷ xs) t = absurd t
      by (y ∷ ys) (x ∷ xs) t = ap suc (by ys xs t.2)

  -- what goes, by the names of nodes
  abbrev goes : List ℕ → List EntryKey → EntryKey → Bool
  goes gone ns k = is_in same_entry (gathered gone ns) k

  drops_back : (gone : List ℕ) (dropped : Graph EntryKey) → Drops (is_gone gone new) new dropped → Drops (is_gone gone g) g dropped
  drops_back gone dropped was =
      let d : Drops (goes gone (nodes g)) new dropped = subst (λ (ns : List EntryKey). Drops (goes gone ns) new dropped) names was in
      record {
        nodes_are = λ a. (
          (λ c. let r = (d.nodes_are a).0 c in (subst (λ (ns : List EntryKey). Contains ns a) names r.0, r.1)),
          (λ r. (d.nodes_are a).1 (subst (λ (ns : List EntryKey). Contains ns a) (sym names) r.0, r.1)),
        );
        reach = λ a b. (
          (λ h. let r = (d.reach a b).0 h in ((same_reach a b).0 r.0, r.1, r.2)),
          (λ r. (d.reach a b).1 ((same_reach a b).1 r.0, r.1, r.2)),
        );
      }

  pub can_still : (gone : List ℕ) (chain : List EntryKey) (found : List (Option ℕ)) → CanBePatched gone chain found g → CanBePatched gone chain found new
  can_still gone chain found can = record {
    rising = can.rising;
    within = λ k l. subst (λ (n : ℕ). get_or gone k 0 < n) (sym lengths) (can.within k l);
    once = can.once;
    found_are = can.found_are ∙ sym (ap (λ (ns : List EntryKey). map (λ k. place_of same_entry ns k) chain) names);
    forward = λ dropped was. can.forward dropped (drops_back gone dropped was);
  }

  module _ (first lists : List (ℕ × List EntryKey)) (made : Graph EntryKey) (line : Option (List ℕ)) (within : AreWithin first g) (put : new ≡ with_lists first g) where
    same_patched : patched (lists, (made, line)) new ≡ patched (first ++ lists, (made, line)) g
    same_patched = ap (λ h. arranged line (h ++ made)) (ap (with_lists lists) put ∙ sym (with_lists-append first lists g))

    pub fits_back : FitsPatch (lists, (made, line)) new → FitsPatch (first ++ lists, (made, line)) g
    fits_back was = record {
      lists = λ l c. elim (has_either first lists l (has_from (first ++ lists) l c)) [
        | inl h ↦ within l (contains_from first l h)
        | inr h ↦ subst (λ (n : ℕ). l.0 < n) lengths (was.lists l (contains_from lists l h))
      ];
      line = subst (λ (n : ℕ). IsLine line (n + length made)) lengths was.line;
      still = was.still;
      sound = subst IsInOrder same_patched was.sound;
    }

    pub patched_back : (gone : List ℕ) (chain : List EntryKey) (found : List (Option ℕ)) → IsPatched gone chain found new (lists, (made, line)) → IsPatched gone chain found g (first ++ lists, (made, line))
    patched_back gone chain found was = record {
      made_are = was.made_are;
      dropped = was.dropped;
      drops = drops_back gone was.dropped was.drops;
      adds = subst (λ (h : Graph EntryKey). AddsChain chain was.dropped h) same_patched was.adds;
    }

-- ---- the same, as the code has it

pub thin_ordered : (old now new : Graph EntryKey) (lists : List (ℕ × List EntryKey)) → now ≡ old → IsInOrder old → IsThinned now new lists → IsInOrder new
thin_ordered old now new lists e sound t = in_order now new t.thinner (subst IsInOrder (sym e) sound)

pub thin_can : (old now new self : Graph EntryKey) (lists : List (ℕ × List EntryKey)) (gone : List ℕ) (chain : List EntryKey) (found : List (Option ℕ)) → now ≡ old → old ≡ self → IsInOrder old
    → IsThinned now new lists → CanBePatched gone chain found self → CanBePatched gone chain found new
thin_can old now new self lists gone chain found e view sound t can =
    can_still now new t.thinner (subst IsInOrder (sym e) sound) gone chain found (subst (λ (h : Graph EntryKey). CanBePatched gone chain found h) (sym (e ∙ view)) can)

pub thin_back : (old now new self : Graph EntryKey) (first lists all : List (ℕ × List EntryKey)) (made : Graph EntryKey) (line : Option (List ℕ)) (p : PatchOf EntryKey) (gone : List ℕ) (chain : List EntryKey)
    (found : List (Option ℕ)) → now ≡ old → old ≡ self → IsInOrder old → IsThinned now new first → (lists, (made, line)) ≡ p → all ≡ first ++ lists → FitsPatch p new → IsPatched gone chain found new p
    → FitsPatch (all, (made, line)) self × IsPatched gone chain found self (all, (made, line))
thin_back old now new self first lists all made line p gone chain found e view sound t is joined fits was =
    let good : IsInOrder now = subst IsInOrder (sym e) sound in
    let f : FitsPatch (lists, (made, line)) new = subst (λ (q : PatchOf EntryKey). FitsPatch q new) (sym is) fits in
    let w : IsPatched gone chain found new (lists, (made, line)) = subst (λ (q : PatchOf EntryKey). IsPatched gone chain found new q) (sym is) was in
    subst (λ (h : Graph EntryKey). FitsPatch (all, (made, line)) h × IsPatched gone chain found h (all, (made, line))) (e ∙ view)
    (subst (λ (ls : List (ℕ × List EntryKey)). FitsPatch (ls, (made, line)) now × IsPatched gone chain found now (ls, (made, line))) (sym joined)
    (fits_back now new t.thinner good first lists made line t.within t.put f, patched_back now new t.thinner good first lists made line t.within t.put gone chain found w))
