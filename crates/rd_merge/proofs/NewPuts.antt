-- What the steps of a plan put into a level.
use Rattle.std.proofs.Common.{◌≡◌, refl, ap, ◌∙◌, sym, subst, ℕ, zero, suc, Bool, true, false, List, [], ◌∷◌, ◌++◌, length, take, drop, arith, inl, inr}
use Rattle.std.specs.Prelude.{Option, Some, None, map, is_some, unwrap_or}
use Rattle.rd_graph.specs.Gathered.{gathered}
use Rattle.rd_graph.specs.Names.{same_entry, place_of}
use Rattle.rd_graph.specs.Patches.{not_found}
use Rattle.rd_graph.proofs.Lists.Entries.{same_entry-sound, same_entry-refl, place_some}
use Rattle.rd_graph.proofs.Lists.Listing.{Has}
use Rattle.rd_keys.specs.Keys.{BoxKey}
use Rattle.rd_keys.specs.declared.entry.EntryKey.{EntryKey}
use Rattle.rd_item.specs.Items.{Made}
use Rattle.rd_list.specs.Wrappers.{Wrapper}
use Rattle.rd_list.specs.Entries.{nil, leaf, group, ◌▷◌, heads}
use Rattle.rd_list.specs.EntryNames.{entry_names, new_names}
use Rattle.rd_list.specs.Kept.{Ordered, KeptList}
use Rattle.rd_list.specs.Views.{group_at}
use Rattle.rd_merge.specs.Looking.{kept_names}
use Rattle.rd_merge.specs.Merging.{MergedInto}
use Rattle.rd_merge.specs.Plans.{GroupStep, Steps, size_of, old_list, wrapper_at, wrapper_for, list_for, left_for, grouped_as, filled, IsPlace, IsGroupPlace, IsNamed, PlacesFit}
use Rattle.rd_merge.specs.Internal.Planning.{NewSteps, InnerSteps, place_in}
use Rattle.rd_merge.proofs.Puts.{at, ArePut}
use Rattle.rd_merge.proofs.Places.{AreBelow, HasGroup}
use Rattle.rd_merge.proofs.SteppedLevel.{Olds, News, One, ones, one_name, one_group, one_wrapper, group_ones, wrapper_ones, places_of, entry_for, ones_of, EachFits}

names_size : (xs : Olds) → length (kept_names xs) ≡ size_of xs
names_size nil = refl
names_size (leaf m xs) = ap suc (names_size xs)
names_size (group g inner xs) = ap suc (names_size xs)

is_place : (xs : Olds) (o : Option ℕ) (k : EntryKey) → o ≡ place_of same_entry (kept_names xs) k → IsPlace o (size_of xs)
is_place xs None k e = tt
is_place xs (Some i) k e = let r = (place_some same_entry same_entry-sound same_entry-refl (kept_names xs) k i (sym e)).0 in let s = names_size xs in omega (arith, r, s)

-- the group at a place
group_there : (i : ℕ) (xs : Olds) → is_some (group_at i xs) ≡ true → (g : Ordered EntryKey Wrapper) × (inner : Olds) × (at i (ones xs) ≡ Some (inr (g, inner)))
group_there i nil e = absurd (let bad : false ≡ true = e in cc)
group_there zero (leaf m xs) e = absurd (let bad : false ≡ true = e in cc)
group_there zero (group g inner xs) e = (g, inner, refl)
group_there (suc i) (leaf m xs) e = group_there i xs e
group_there (suc i) (group g inner xs) e = group_there i xs e

at_has : {T : Type 0} (i : ℕ) (xs : List T) (x : T) → at i xs ≡ Some x → Has xs x
at_has i [] x e = absurd (let bad : None ≡ Some x = e in cc)
at_has zero (y ∷ xs) x e = inl (let same : y ≡ x = cc in same)
at_has (suc i) (y ∷ xs) x e = inr (at_has i xs x e)

name_there : {T : Type 0} (f : T → EntryKey) (i : ℕ) (xs : List T) (x : T) → at i xs ≡ Some x → take 1 (drop i (map f xs)) ≡ f x ∷ []
name_there f i [] x e = absurd (let bad : None ≡ Some x = e in cc)
name_there f zero (y ∷ xs) x e = let same : y ≡ x = cc in ap (λ z. f z ∷ []) same
name_there f (suc i) (y ∷ xs) x e = name_there f i xs x e

module _ (touched : BoxKey → Bool) (xs : Olds) where
  abbrev pub place : EntryKey → Option ℕ
  place k = place_in touched xs k

  -- an entry of the new level, or what a merge makes of its group
  abbrev pub RightNew : News → One → Type 0
  RightNew fresh (inl m) = Has (heads fresh) (inl m)
  RightNew fresh (inr p) =
      (w : Wrapper) × (inner : News) × HasGroup fresh w inner × (w ≡ p.0.of) × MergedInto touched (old_list (place (entry_names.group w)) xs) inner (record { graph = p.0.graph; entries = p.1 })

  right_after_leaf : (m : Made) (fresh : News) (f : One) → RightNew fresh f → RightNew (leaf m fresh) f
  right_after_leaf m fresh (inl x) h = inr h
  right_after_leaf m fresh (inr p) h = (h.0, h.1, h.2, h.3, h.4)

  right_after_group : (w : Wrapper) (inner fresh : News) (f : One) → RightNew fresh f → RightNew (group w inner fresh) f
  right_after_group w inner fresh (inl x) h = inr h
  right_after_group w inner fresh (inr p) h = (h.0, h.1, inr h.2, h.3, h.4)

  group_fits : (s : GroupStep) (inner : Steps) (p : Option ℕ) (b : Bool) (fresh : News) → s.old ≡ p → s.is_new ≡ b
      → IsPlace p (size_of xs) × IsGroupPlace p xs × IsNamed b p fresh × PlacesFit (record { patch = s.patch; steps = inner }) (old_list p xs) (list_for b fresh)
      → IsPlace s.old (size_of xs) × IsGroupPlace s.old xs × IsNamed s.is_new s.old fresh × PlacesFit (record { patch = s.patch; steps = inner }) (old_list s.old xs) (list_for s.is_new fresh)
  group_fits s inner p b fresh e f h =
      subst (λ (o : Option ℕ). IsPlace o (size_of xs) × IsGroupPlace o xs × IsNamed s.is_new o fresh × PlacesFit (record { patch = s.patch; steps = inner }) (old_list o xs) (list_for s.is_new fresh)) (sym e)
      (subst (λ (c : Bool). IsPlace p (size_of xs) × IsGroupPlace p xs × IsNamed c p fresh × PlacesFit (record { patch = s.patch; steps = inner }) (old_list p xs) (list_for c fresh)) (sym f) h)

  group_made : (s : GroupStep) (inner : Steps) (p : Option ℕ) (b : Bool) (fresh : News) → s.old ≡ p → s.is_new ≡ b
      → ones (entry_for xs s inner fresh (wrapper_for s.is_new s.old xs fresh) (old_list s.old xs))
      ≡ ones (grouped_as (wrapper_for b p xs fresh) (filled (record { patch = s.patch; steps = inner }) (old_list p xs) (list_for b fresh)))
  group_made s inner p b fresh e f =
      ap (λ (o : Option ℕ). ones (grouped_as (wrapper_for s.is_new o xs fresh) (filled (record { patch = s.patch; steps = inner }) (old_list o xs) (list_for s.is_new fresh)))) e
      ∙ ap (λ (c : Bool). ones (grouped_as (wrapper_for c p xs fresh) (filled (record { patch = s.patch; steps = inner }) (old_list p xs) (list_for c fresh)))) f

  -- ---- the steps of the new entries

  pub record NewPuts (fresh : News) (steps rest : Steps) : Type 0 where
    pub es : List One
    pub ones_are : ones_of xs (steps ▷ rest) fresh ≡ es ++ ones_of xs rest nil
    pub names_are : map one_name es ≡ new_names fresh
    pub places_are : places_of (steps ▷ rest) ≡ map place (new_names fresh) ++ places_of rest
    pub right : (f : One) → Has es f → RightNew fresh f
    pub each : EachFits xs rest nil → EachFits xs (steps ▷ rest) fresh

  pub new_puts : (fresh : News) (steps rest : Steps) → NewSteps touched xs fresh steps → NewPuts fresh steps rest
  new_puts nil nil rest h = record { es = []; ones_are = refl; names_are = refl; places_are = refl; right = λ f b. absurd b; each = λ k. k }
  new_puts nil (leaf q steps) rest h = absurd h
  new_puts nil (group s inner steps) rest h = absurd h
  new_puts (leaf m fresh) nil rest h = absurd h
  new_puts (leaf m fresh) (group s inner steps) rest h = absurd h
  new_puts (group w list fresh) nil rest h = absurd h
  new_puts (group w list fresh) (leaf q steps) rest h = absurd h
  new_puts (leaf m fresh) (leaf q steps) rest h =
      let r = new_puts fresh steps rest h.1 in
      record {
        es = inl m ∷ r.es;
        ones_are = ap (λ (zs : List One). inl m ∷ zs) r.ones_are;
        names_are = ap (λ ks. entry_names.leaf m.leaf ∷ ks) r.names_are;
        places_are = ap (λ os. q ∷ os) r.places_are ∙ ap (λ o. o ∷ (map place (new_names fresh) ++ places_of rest)) h.0;
        right = λ f k. elim k [ inl e ↦ subst (λ (z : One). RightNew (leaf m fresh) z) e (inl refl) | inr d ↦ right_after_leaf m fresh f (r.right f d) ];
        each = λ k. (is_place xs q (entry_names.leaf m.leaf) h.0, refl, r.each k);
      }
  new_puts (group w list fresh) (group s inner steps) rest h =
      let r = new_puts fresh steps rest h.1 in
      let p : Option ℕ = place (entry_names.group w) in
      let whole : News = group w list fresh in
      let made = filled (record { patch = s.patch; steps = inner }) (old_list p xs) list in
      let e : One = inr (record { of = w; graph = made.graph }, made.entries) in
      let here : ones (entry_for xs s inner whole (wrapper_for s.is_new s.old xs whole) (old_list s.old xs)) ≡ e ∷ [] = group_made s inner p true whole h.0.old_is h.0.new_is in
      let left : left_for s.is_new whole ≡ fresh = ap (λ b. left_for b whole) h.0.new_is in
      let right_one : RightNew whole e = (w, list, inl (refl, refl), refl, h.0.plan.merged) in
      record {
        es = e ∷ r.es;
        ones_are = ap (λ zs. zs ++ ones_of xs (steps ▷ rest) (left_for s.is_new whole)) here ∙ ap (λ z. e ∷ ones_of xs (steps ▷ rest) z) left ∙ ap (λ zs. e ∷ zs) r.ones_are;
        names_are = ap (λ ks. entry_names.group w ∷ ks) r.names_are;
        places_are = ap (λ os. s.old ∷ os) r.places_are ∙ ap (λ o. o ∷ (map place (new_names fresh) ++ places_of rest)) h.0.old_is;
        right = λ f k. elim k [ inl q ↦ subst (λ (z : One). RightNew whole z) q right_one | inr d ↦ right_after_group w list fresh f (r.right f d) ];
        each = λ k. (
          group_fits s inner p true whole h.0.old_is h.0.new_is (is_place xs p (entry_names.group w) refl, h.0.there, refl, h.0.plan.fits),
          subst (λ z. EachFits xs (steps ▷ rest) z) (sym left) (r.each k),
        );
      }

  -- ---- the steps of the groups to go into

  -- what a merge with nothing makes of a group of the level
  abbrev pub RightInner : One → Type 0
  RightInner (inl m) = ⊥
  RightInner (inr p) =
      (g : Ordered EntryKey Wrapper) × (inner : Olds) × Has (ones xs) (inr (g, inner)) × (g.of ≡ p.0.of)
      × MergedInto touched (record { graph = g.graph; entries = inner }) nil (record { graph = p.0.graph; entries = p.1 })

  pub record InnerPuts (places : List ℕ) (steps : Steps) : Type 0 where
    pub names_are : map one_name (ones_of xs steps nil) ≡ gathered places (map one_name (ones xs))
    pub places_are : places_of steps ≡ map (λ i. Some i) places
    pub right : (f : One) → Has (ones_of xs steps nil) f → RightInner f
    pub none_made : not_found (map one_name (ones_of xs steps nil)) (map (λ i. Some i) places) ≡ []
    pub put : ((i : ℕ) (x : One) → at i (ones xs) ≡ Some x → Some i ≡ place (one_name x)) → ArePut one_name (kept_names xs) (map (λ i. Some i) places) (ones_of xs steps nil)
    pub each : AreBelow (size_of xs) places → EachFits xs steps nil

  pub inner_puts : (places : List ℕ) (steps : Steps) → InnerSteps touched xs places steps → InnerPuts places steps
  inner_puts [] nil h = record { names_are = refl; places_are = refl; right = λ f b. absurd b; none_made = refl; put = λ k. tt; each = λ k. tt }
  inner_puts [] (leaf q steps) h = absurd h
  inner_puts [] (group s inner steps) h = absurd h
  inner_puts (i ∷ places) nil h = absurd h
  inner_puts (i ∷ places) (leaf q steps) h = absurd h
  inner_puts (i ∷ places) (group s inner steps) h =
      let r = inner_puts places steps h.1 in
      let there = group_there i xs h.0.there in
      let g : Ordered EntryKey Wrapper = there.0 in
      let list : Olds = there.1 in
      let list_is : old_list (Some i) xs ≡ record { graph = g.graph; entries = list } = ap (λ z. unwrap_or z (record { graph = []; entries = nil })) (group_ones i xs ∙ ap one_group there.2) in
      let wrapper_is : wrapper_at i xs ≡ Some g.of = wrapper_ones i xs ∙ ap one_wrapper there.2 in
      let made = filled (record { patch = s.patch; steps = inner }) (old_list (Some i) xs) nil in
      let e : One = inr (record { of = g.of; graph = made.graph }, made.entries) in
      let here : ones (entry_for xs s inner nil (wrapper_for s.is_new s.old xs nil) (old_list s.old xs)) ≡ e ∷ [] =
      group_made s inner (Some i) false nil h.0.old_is h.0.new_is ∙ ap (λ v. ones (grouped_as v made)) wrapper_is in
      let left : left_for s.is_new nil ≡ nil = ap (λ b. left_for b nil) h.0.new_is in
      let all : ones_of xs (group s inner steps) nil ≡ e ∷ ones_of xs steps nil = ap (λ zs. zs ++ ones_of xs steps (left_for s.is_new nil)) here ∙ ap (λ z. e ∷ ones_of xs steps z) left in
      let right_one : RightInner e = (
        g,
        list,
        at_has i (ones xs) (inr (g, list)) there.2,
        refl,
        subst (λ (k : KeptList EntryKey Wrapper Made). MergedInto touched k nil made) list_is h.0.plan.merged,
      ) in
      record {
        names_are = ap (λ (zs : List One). map one_name zs) all ∙ ap (λ ks. one_name e ∷ ks) r.names_are ∙ sym (ap (λ ks. ks ++ gathered places (map one_name (ones xs))) (name_there one_name i (ones xs) (inr (g, list)) there.2));
        places_are = ap (λ os. s.old ∷ os) r.places_are ∙ ap (λ o. o ∷ map (λ i. Some i) places) h.0.old_is;
        right = λ f k. elim (subst (λ (zs : List One). Has zs f) all k) [ inl q ↦ subst (λ (z : One). RightInner z) q right_one | inr d ↦ r.right f d ];
        none_made = ap (λ (zs : List One). not_found (map one_name zs) (Some i ∷ map (λ i. Some i) places)) all ∙ r.none_made;
        put = λ k. subst (λ (zs : List One). ArePut one_name (kept_names xs) (Some i ∷ map (λ i. Some i) places) zs) (sym all) (k i (inr (g, list)) there.2, r.put k);
        each = λ k. (
          group_fits s inner (Some i) false nil h.0.old_is h.0.new_is (k.0, h.0.there, refl, h.0.plan.fits),
          subst (λ z. EachFits xs steps z) (sym left) (r.each k.1),
        );
      }
