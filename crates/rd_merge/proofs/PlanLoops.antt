-- What the functions that plan a level ask and give, one after another.
use Rattle.std.proofs.Common.{◌≡◌, refl, ap, ◌∙◌, sym, subst, ℕ, zero, suc, ◌+◌, ◌<◌, ◌≤◌, Bool, true, false, not, ◌&&◌, List, [], ◌∷◌, ◌++◌, length, take, drop, get_or, arith, inl, inr, append_assoc, append-nil}
use Rattle.std.specs.Prelude.{Option, Some, None, map, is_some, unwrap_or}
use Rattle.std.proofs.lemmas.List.{take_more, take-append-drop}
use Rattle.std.specs.declared.vec.Vec.{Vec}
use Rattle.rd_graph.specs.Graphs.{Graph}
use Rattle.rd_graph.specs.Names.{is_in, same_entry}
use Rattle.rd_graph.specs.Patches.{PatchOf, CanBePatched, IsPatched}
use Rattle.rd_graph.proofs.Reaching.Calls.{once_of}
use Rattle.rd_graph.proofs.Lists.Entries.{same_entry-refl, has_in}
use Rattle.rd_graph.proofs.Lists.Listing.{Has, cases, never, map_has}
use Rattle.rd_geom.specs.declared.blend.Blend.{Blend}
use Rattle.rd_keys.specs.Keys.{BoxKey}
use Rattle.rd_keys.specs.declared.entry.EntryKey.{EntryKey}
use Rattle.rd_item.specs.declared.leaf.Leaf.{Leaf}
use Rattle.rd_item.specs.Items.{Made}
use Rattle.rd_list.specs.Wrappers.{Wrapper, wrapper}
use Rattle.rd_list.specs.Entries.{nil, leaf, group, ◌▷◌, list_size}
use Rattle.rd_list.specs.EntryNames.{entry_names, made_leaf, kept_leaves, new_names}
use Rattle.rd_list.specs.Kept.{Ordered, KeptList, within}
use Rattle.rd_list.specs.KeptView.{kept_entries}
use Rattle.rd_list.specs.Internal.NewFalls.{size-join}
use Rattle.rd_list.specs.NewView.{new_entries, in_runs}
use Rattle.rd_list.specs.Views.{group_at}
use Rattle.rd_list.specs.declared.fresh.NewEntry.{NewEntry}
use Rattle.rd_list.specs.declared.fresh.NewEntry.TheVariants as new
use Rattle.rd_list.specs.declared.kept.Entry.{Entry}
use Rattle.rd_list.specs.declared.kept.Entry.TheVariants as kept
use Rattle.rd_list.specs.declared.kept.Group.{Group}
use Rattle.rd_list.proofs.News.{new-append, names-join, runs-append, runs_next, runs_from}
use Rattle.rd_list.proofs.Viewing.{size_at, group_here}
use Rattle.rd_merge.specs.Going.{is_untouched}
use Rattle.rd_merge.specs.Internal.Fitting.{FitsFor}
use Rattle.rd_merge.specs.Looking.{inner_places, kept_names, IsLooked}
use Rattle.rd_merge.specs.Merging.{IsPlan}
use Rattle.rd_merge.specs.Plans.{Steps, PlanList, old_list, IsGroupPlace}
use Rattle.rd_merge.specs.PlanView.{steps_seen}
use Rattle.rd_merge.specs.declared.plan.Step.{Step}
use Rattle.rd_merge.specs.declared.plan.Step.TheVariants as step
use Rattle.rd_merge.specs.Internal.Adding.{AddsSteps}
use Rattle.rd_merge.specs.Internal.Planning.{EntriesFit, GroupFits, GroupsFit, InnerSteps, IsGroupStep, NewSteps, PlansGroup, place_in}
use Rattle.rd_merge.proofs.Finding.{old_is, within_is, within_new_is, within_new_none, fits_in_group}
use Rattle.rd_merge.proofs.Places.{HasGroup, is_inner, inner_next}
use Rattle.rd_merge.proofs.Puts.{at}
use Rattle.rd_merge.proofs.SteppedLevel.{Olds, News, ones, one_group, group_ones}

abbrev empty_kept : KeptList EntryKey Wrapper Made
empty_kept = record { graph = []; entries = nil }

-- ---- steps one after another

pub steps_append : {A : Type 0} (xs ys : List (Step A)) → steps_seen (xs ++ ys) ≡ steps_seen xs ▷ steps_seen ys
steps_append [] ys = refl
steps_append (step.Leaf p ∷ xs) ys = ap (leaf p) (steps_append xs ys)
steps_append (step.Group o n plan ∷ xs) ys = ap (group (record { old = o; is_new = n; patch = plan.value.patch }) plan.value.steps) (steps_append xs ys)

pub whole_take : {B : Type 0} (xs : List B) (i : ℕ) → length xs ≤ i → take i xs ≡ xs
whole_take [] zero h = refl
whole_take [] (suc i) h = refl
whole_take (x ∷ xs) zero h = absurd (omega (arith, h))
whole_take (x ∷ xs) (suc i) h = ap (λ ys. x ∷ ys) (whole_take xs i (omega (arith, h)))

module _ (touched : BoxKey → Bool) (xs : Olds) where
  new_join : (fs bs : News) (s u : Steps) → NewSteps touched xs fs s → NewSteps touched xs bs u → NewSteps touched xs (fs ▷ bs) (s ▷ u)
  new_join nil bs nil u h k = k
  new_join nil bs (leaf q s) u h k = absurd h
  new_join nil bs (group g inner s) u h k = absurd h
  new_join (leaf m fs) bs nil u h k = absurd h
  new_join (leaf m fs) bs (leaf q s) u h k = (h.0, new_join fs bs s u h.1 k)
  new_join (leaf m fs) bs (group g inner s) u h k = absurd h
  new_join (group w list fs) bs nil u h k = absurd h
  new_join (group w list fs) bs (leaf q s) u h k = absurd h
  new_join (group w list fs) bs (group g inner s) u h k = (h.0, new_join fs bs s u h.1 k)

  inner_join : (is js : List ℕ) (s u : Steps) → InnerSteps touched xs is s → InnerSteps touched xs js u → InnerSteps touched xs (is ++ js) (s ▷ u)
  inner_join [] js nil u h k = k
  inner_join [] js (leaf q s) u h k = absurd h
  inner_join [] js (group g inner s) u h k = absurd h
  inner_join (i ∷ is) js nil u h k = absurd h
  inner_join (i ∷ is) js (leaf q s) u h k = absurd h
  inner_join (i ∷ is) js (group g inner s) u h k = (h.0, inner_join is js s u h.1 k)

  -- what comes after other steps

  pub adds_none : {A : Type 0} (old : List (Step A)) → AddsSteps touched xs nil old old
  adds_none old = ([], sym (append-nil old), tt)

  pub adds_one : {A : Type 0} (fresh : News) (old new : List (Step A)) (s : Step A) → new ≡ old ++ s ∷ [] → NewSteps touched xs fresh (steps_seen (s ∷ [])) → AddsSteps touched xs fresh old new
  adds_one fresh old new s e h = (s ∷ [], e, h)

  pub leaf_step : {A : Type 0} (x : NewEntry A) (m : Made) (place : Option ℕ) → x ≡ new.Leaf m → place ∷ [] ≡ map (λ k. place_in touched xs k) (new_names (new_entries (x ∷ []))) → NewSteps touched xs (new_entries (x ∷ [])) (leaf place nil)
  leaf_step (new.Leaf m) n place e h = (let same : place ∷ [] ≡ place_in touched xs (entry_names.leaf m.leaf) ∷ [] = h in cc, tt)
  leaf_step (new.Group k o b inner) n place e h = absurd (cc)

  pub group_fit : {A : Type 0} (x : NewEntry A) (k : BoxKey) (o : ℕ) (b : Blend) (inner : News) (place : Option ℕ) → x ≡ new.Group k o b inner → place ∷ [] ≡ map (λ k. place_in touched xs k) (new_names (new_entries (x ∷ [])))
      → EntriesFit touched xs (new_entries (x ∷ [])) → GroupFits touched xs place inner
  group_fit (new.Leaf m) k o b inner place e h f = absurd (cc)
  group_fit {A} (new.Group j p c list) k o b inner place e h f =
      let at : place ≡ place_in touched xs (entry_names.group (wrapper j p c)) = let same : place ∷ [] ≡ place_in touched xs (entry_names.group (wrapper j p c)) ∷ [] = h in cc in
      let is : list ≡ inner = cc in
      subst (λ (q : Option ℕ). GroupFits touched xs q inner) (sym at) (subst (λ (z : News). GroupFits touched xs (place_in touched xs (entry_names.group (wrapper j p c))) z) is f.0)

  pub group_step : {A : Type 0} (x : NewEntry A) (k : BoxKey) (o : ℕ) (b : Blend) (inner : News) (place : Option ℕ) (s : Steps) → x ≡ new.Group k o b inner → place ∷ [] ≡ map (λ k. place_in touched xs k) (new_names (new_entries (x ∷ [])))
      → IsGroupStep touched xs place inner s → NewSteps touched xs (new_entries (x ∷ [])) s
  group_step x k o b inner place nil e h p = absurd p
  group_step x k o b inner place (leaf q s) e h p = absurd p
  group_step (new.Leaf m) k o b inner place (group g i s) e h p = absurd (cc)
  group_step (new.Group j q c list) k o b inner place (group g i s) e h p =
      let at : place ≡ place_in touched xs (entry_names.group (wrapper j q c)) = let same : place ∷ [] ≡ place_in touched xs (entry_names.group (wrapper j q c)) ∷ [] = h in cc in
      let is : inner ≡ list = cc in (
        subst (λ (u : Option ℕ). PlansGroup touched xs u list true g i) at (subst (λ (z : News). PlansGroup touched xs place z true g i) is p.0),
        subst (λ (z : Steps). NewSteps touched xs nil z) (sym p.1) tt,
      )

  pub group_smaller : {A : Type 0} (x : NewEntry A) (k : BoxKey) (o : ℕ) (b : Blend) (inner : News) → x ≡ new.Group k o b inner → list_size (new_entries (x ∷ [])) ≡ list_size inner + 1
  group_smaller {A} x k o b inner e = ap (λ (z : NewEntry A). list_size (new_entries (z ∷ []))) e ∙ (let s : list_size (new_entries {A = A} (new.Group k o b inner ∷ [])) ≡ list_size inner + 1 = omega arith in s)

  adds_join : {A : Type 0} (fs bs : News) (old now then : List (Step A)) → AddsSteps touched xs fs old now → AddsSteps touched xs bs now then → AddsSteps touched xs (fs ▷ bs) old then
  adds_join fs bs old now then a b = (
    a.0 ++ b.0,
    b.1 ∙ ap (λ zs. zs ++ b.0) a.1 ∙ append_assoc old a.0 b.0,
    subst (λ (z : Steps). NewSteps touched xs (fs ▷ bs) z) (sym (steps_append a.0 b.0)) (new_join fs bs (steps_seen a.0) (steps_seen b.0) a.2 b.2),
  )

  pub adds_next : {A : Type 0} (es : List (NewEntry A)) (i : ℕ) (x : NewEntry A) (old now then : List (Step A)) → i < length es → x ≡ get_or es i x → AddsSteps touched xs (new_entries (take i es)) old now
      → AddsSteps touched xs (new_entries (x ∷ [])) now then → AddsSteps touched xs (new_entries (take (i + 1) es)) old then
  adds_next es i x old now then h is was this =
      subst (λ (z : News). AddsSteps touched xs z old then) (sym (ap new_entries (take_more es i x h ∙ ap (λ y. take i es ++ y ∷ []) (sym is)) ∙ new-append (take i es) (x ∷ [])))
      (adds_join (new_entries (take i es)) (new_entries (x ∷ [])) old now then was this)

  pub inner_next_step : {A : Type 0} (places : List ℕ) (i : ℕ) (now then : List (Step A)) (s : Step A) → i < length places → InnerSteps touched xs (take i places) (steps_seen now)
      → InnerSteps touched xs (get_or places i 0 ∷ []) (steps_seen (s ∷ [])) → then ≡ now ++ s ∷ [] → InnerSteps touched xs (take (i + 1) places) (steps_seen then)
  inner_next_step places i now then s h was this e =
      subst (λ (z : List ℕ). InnerSteps touched xs z (steps_seen then)) (sym (take_more places i 0 h))
      (subst (λ (z : Steps). InnerSteps touched xs (take i places ++ get_or places i 0 ∷ []) z) (sym (ap steps_seen e ∙ steps_append now (s ∷ [])))
      (inner_join (take i places) (get_or places i 0 ∷ []) (steps_seen now) (steps_seen (s ∷ [])) was this))

  -- ---- what fits at a place of the loops

  first_fit : {A : Type 0} (y : NewEntry A) (es : List (NewEntry A)) → EntriesFit touched xs (new_entries (y ∷ es)) → EntriesFit touched xs (new_entries (y ∷ []))
  first_fit (new.Leaf m) es h = tt
  first_fit (new.Group k o b inner) es h = (h.0, tt)

  later_fit : {A : Type 0} (y : NewEntry A) (es : List (NewEntry A)) → EntriesFit touched xs (new_entries (y ∷ es)) → EntriesFit touched xs (new_entries es)
  later_fit (new.Leaf m) es h = h
  later_fit (new.Group k o b inner) es h = h.1

  pub fit_at : {A : Type 0} (es : List (NewEntry A)) (i : ℕ) (x : NewEntry A) → i < length es → x ≡ get_or es i x → EntriesFit touched xs (new_entries es) → EntriesFit touched xs (new_entries (x ∷ []))
  fit_at [] i x h is f = absurd (omega (arith, h))
  fit_at {A} (y ∷ es) zero x h is f = subst (λ (z : NewEntry A). EntriesFit touched xs (new_entries (z ∷ []))) (sym is) (first_fit y es f)
  fit_at (y ∷ es) (suc i) x h is f = fit_at es i x (omega (arith, h)) is (later_fit y es f)

  abbrev places : List EntryKey → List (Option ℕ)
  places ks = map (λ k. place_in touched xs k) ks

  place_one : {A : Type 0} (es : List (NewEntry A)) (i : ℕ) (x : NewEntry A) (d : Option ℕ) → i < length es → x ≡ get_or es i x → get_or (places (new_names (new_entries es))) i d ∷ [] ≡ places (new_names (new_entries (x ∷ [])))
  place_one [] i x d h is = absurd (omega (arith, h))
  place_one {A} (new.Leaf m ∷ es) zero x d h is = ap (λ (z : NewEntry A). places (new_names (new_entries (z ∷ [])))) (sym is)
  place_one {A} (new.Group k o b inner ∷ es) zero x d h is = ap (λ (z : NewEntry A). places (new_names (new_entries (z ∷ [])))) (sym is)
  place_one (new.Leaf m ∷ es) (suc i) x d h is = place_one es i x d (omega (arith, h)) is
  place_one (new.Group k o b inner ∷ es) (suc i) x d h is = place_one es i x d (omega (arith, h)) is

  pub place_here : {A : Type 0} (es : List (NewEntry A)) (i : ℕ) (x : NewEntry A) (d : Option ℕ) (found : List (Option ℕ)) → i < length es → x ≡ get_or es i x → found ≡ places (new_names (new_entries es))
      → get_or found i d ∷ [] ≡ places (new_names (new_entries (x ∷ [])))
  place_here es i x d found h is e = ap (λ us. get_or us i d ∷ []) e ∙ place_one es i x d h is

  names_long : {A : Type 0} (es : List (NewEntry A)) → length (places (new_names (new_entries es))) ≡ length es
  names_long [] = refl
  names_long (new.Leaf m ∷ es) = ap suc (names_long es)
  names_long (new.Group k o b inner ∷ es) = ap suc (names_long es)

  pub found_long : {A : Type 0} (es : List (NewEntry A)) (i : ℕ) (found : List (Option ℕ)) → i < length es → found ≡ places (new_names (new_entries es)) → i < length found
  found_long es i found h e = let l = ap length e in let n = names_long es in omega (arith, h, l, n)

  -- ---- run after run

  fit_first : (fs bs : News) → EntriesFit touched xs (fs ▷ bs) → EntriesFit touched xs fs
  fit_first nil bs h = tt
  fit_first (leaf m fs) bs h = fit_first fs bs h
  fit_first (group w inner fs) bs h = (h.0, fit_first fs bs h.1)

  fit_rest : (fs bs : News) → EntriesFit touched xs (fs ▷ bs) → EntriesFit touched xs bs
  fit_rest nil bs h = h
  fit_rest (leaf m fs) bs h = fit_rest fs bs h
  fit_rest (group w inner fs) bs h = fit_rest fs bs h.1

  take_places : (ks ls : List EntryKey) (n : ℕ) → n ≡ length ks → take n (places (ks ++ ls)) ≡ places ks
  take_places [] ls n e = rw e refl
  take_places (k ∷ ks) ls zero e = absurd (omega (arith, e))
  take_places (k ∷ ks) ls (suc n) e = ap (λ us. place_in touched xs k ∷ us) (take_places ks ls n (omega (arith, e)))

  drop_places : (ks ls : List EntryKey) (n : ℕ) → n ≡ length ks → drop n (places (ks ++ ls)) ≡ places ls
  drop_places [] ls n e = rw e refl
  drop_places (k ∷ ks) ls zero e = absurd (omega (arith, e))
  drop_places (k ∷ ks) ls (suc n) e = drop_places ks ls n (omega (arith, e))

  long_places : (ks ls : List EntryKey) (n : ℕ) → n ≡ length ks → n ≤ length (places (ks ++ ls))
  long_places [] ls n e = omega (arith, e)
  long_places (k ∷ ks) ls zero e = omega arith
  long_places (k ∷ ks) ls (suc n) e = let r = long_places ks ls n (omega (arith, e)) in omega (arith, r)

  named_all : {A : Type 0} (es : List (NewEntry A)) → length (new_names (new_entries es)) ≡ length es
  named_all [] = refl
  named_all (new.Leaf m ∷ es) = ap suc (named_all es)
  named_all (new.Group k o b inner ∷ es) = ap suc (named_all es)

  module _ {A B : Type 0} (rs : List (Vec (NewEntry A) B)) (i : ℕ) (r : Vec (NewEntry A) B) (there : i < length rs) (is : r ≡ get_or rs i r) where
    pub run_fits : (es : List (NewEntry A)) → es ≡ r.items → EntriesFit touched xs (in_runs rs) → EntriesFit touched xs (new_entries es)
    run_fits es e f =
        let parts : in_runs (take i rs) ▷ in_runs (drop i rs) ≡ in_runs rs = sym (runs-append (take i rs) (drop i rs)) ∙ ap in_runs (take-append-drop i rs) in
        let rest = fit_rest (in_runs (take i rs)) (in_runs (drop i rs)) (subst (λ (z : News). EntriesFit touched xs z) (sym parts) f) in
        subst (λ (ys : List (NewEntry A)). EntriesFit touched xs (new_entries ys)) (sym e) (fit_first (new_entries r.items) (in_runs (drop (suc i) rs)) (subst (λ (z : News). EntriesFit touched xs z) (runs_from rs i r there is) rest))

    module _ (n : ℕ) (long : n ≡ length r.items) (found : List (Option ℕ)) (was : found ≡ places (new_names (in_runs (drop i rs)))) where
      apart : found ≡ places (new_names (new_entries r.items) ++ new_names (in_runs (drop (suc i) rs)))
      apart = was ∙ ap (λ z. places (new_names z)) (runs_from rs i r there is) ∙ ap places (names-join (new_entries r.items) (in_runs (drop (suc i) rs)))

      named : n ≡ length (new_names (new_entries r.items))
      named = long ∙ sym (named_all r.items)

      pub run_within : n ≤ length found
      run_within = rw apart (long_places (new_names (new_entries r.items)) (new_names (in_runs (drop (suc i) rs))) n named)

      pub run_found : (es : List (NewEntry A)) → es ≡ r.items → take n found ≡ places (new_names (new_entries es))
      run_found es e = ap (λ us. take n us) apart ∙ take_places (new_names (new_entries r.items)) (new_names (in_runs (drop (suc i) rs))) n named ∙ ap (λ ys. places (new_names (new_entries ys))) (sym e)

      pub run_after : drop n found ≡ places (new_names (in_runs (drop (i + 1) rs)))
      run_after =
          let one : suc i ≡ i + 1 = omega arith in
          ap (λ us. drop n us) apart ∙ drop_places (new_names (new_entries r.items)) (new_names (in_runs (drop (suc i) rs))) n named ∙ ap (λ k. places (new_names (in_runs (drop k rs)))) one

    pub run_steps : (es : List (NewEntry A)) (now more then : List (Step A)) → es ≡ r.items → NewSteps touched xs (in_runs (take i rs)) (steps_seen now) → NewSteps touched xs (new_entries es) (steps_seen more) → then ≡ now ++ more
        → NewSteps touched xs (in_runs (take (i + 1) rs)) (steps_seen then)
    run_steps es now more then e was this next =
        subst (λ (z : News). NewSteps touched xs z (steps_seen then)) (ap (λ ys. in_runs (take i rs) ▷ new_entries ys) e ∙ runs_next rs i r there is)
        (subst (λ (z : Steps). NewSteps touched xs (in_runs (take i rs) ▷ new_entries es) z) (sym (ap steps_seen next ∙ steps_append now more))
        (new_join (in_runs (take i rs)) (new_entries es) (steps_seen now) (steps_seen more) was this))

    pub run_size_at : (es : List (NewEntry A)) → es ≡ r.items → list_size (new_entries es) ≤ list_size (in_runs rs)
    run_size_at es e =
        let parts = ap list_size (sym (runs-append (take i rs) (drop i rs)) ∙ ap in_runs (take-append-drop i rs)) in
        let all = size-join (in_runs (take i rs)) (in_runs (drop i rs)) in
        let rest = ap list_size (runs_from rs i r there is) in
        let first = size-join (new_entries r.items) (in_runs (drop (suc i) rs)) in
        let same = ap (λ ys. list_size (new_entries ys)) e in
        omega (arith, parts, all, rest, first, same)

  pub groups_at : (is : List ℕ) (i : ℕ) → i < length is → GroupsFit touched xs is → GroupFits touched xs (Some (get_or is i 0)) nil
  groups_at [] i h f = absurd (omega (arith, h))
  groups_at (j ∷ is) zero h f = f.0
  groups_at (j ∷ is) (suc i) h f = groups_at is i (omega (arith, h)) f.1

first_size : {A : Type 0} (x : NewEntry A) (es : List (NewEntry A)) → list_size (new_entries (x ∷ [])) ≤ list_size (new_entries (x ∷ es))
first_size (new.Leaf m) es = omega arith
first_size (new.Group k o b inner) es = omega arith

rest_size : {A : Type 0} (x : NewEntry A) (es : List (NewEntry A)) → list_size (new_entries es) ≤ list_size (new_entries (x ∷ es))
rest_size (new.Leaf m) es = omega arith
rest_size (new.Group k o b inner) es = omega arith

pub new_size_at : {A : Type 0} (es : List (NewEntry A)) (i : ℕ) (x : NewEntry A) → i < length es → x ≡ get_or es i x → list_size (new_entries (x ∷ [])) ≤ list_size (new_entries es)
new_size_at [] i x h e = absurd (omega (arith, h))
new_size_at (y ∷ es) zero x h e = rw e (first_size y es)
new_size_at (y ∷ es) (suc i) x h e = omega (arith, new_size_at es i x (omega (arith, h)) e, rest_size y es)

-- ---- the group at a place of a vector

module _ {A : Type 0} where
  within_vector : (es : List (Entry A)) (i : ℕ) → is_some (group_at i (kept_entries es)) ≡ true → i < length es
  within_vector [] i h = absurd (let bad : false ≡ true = h in cc)
  within_vector (x ∷ es) zero h = omega arith
  within_vector (kept.Leaf m ∷ es) (suc i) h = let r = within_vector es i h in omega (arith, r)
  within_vector (kept.Group g ∷ es) (suc i) h = let r = within_vector es i h in omega (arith, r)

  module _ (es : List (Entry A)) (xs : Olds) (view : kept_entries es ≡ xs) (i : ℕ) (place : IsGroupPlace (Some i) xs) where
    pub group_within : i < length es
    group_within = within_vector es i (subst (λ (y : Olds). IsGroupPlace (Some i) y) (sym view) place)

    module _ (x : Entry A) (is : x ≡ get_or es i x) where
      here : group_at i xs ≡ group_at 0 (kept_entries (x ∷ []))
      here = ap (group_at i) (sym view) ∙ group_here es i x group_within is

      pub group_no_leaf : (m : Made) → x ≡ kept.Leaf m → ⊥
      group_no_leaf m e = let bad : false ≡ true = ap (λ (z : Entry A). is_some (group_at 0 (kept_entries (z ∷ [])))) (sym e) ∙ ap is_some (sym here) ∙ place in cc

      module _ (g : Group A) (e : x ≡ kept.Group g) where
        pub group_list : g.inner ≡ old_list (Some i) xs
        group_list = sym (ap (λ z. unwrap_or z empty_kept) (here ∙ ap (λ (z : Entry A). group_at 0 (kept_entries (z ∷ []))) e))

        pub group_size : suc (list_size g.inner.entries) ≤ list_size xs
        group_size =
            let s = size_at es i x group_within is in
            let v = ap list_size view in
            let l = ap (λ (z : Entry A). list_size (kept_entries (z ∷ []))) e in
            omega (arith, s, v, l)

pub list_fits : (stays : Leaf → Bool) (list old : KeptList EntryKey Wrapper Made) (none : News) → list ≡ old → none ≡ nil → FitsFor stays old nil → FitsFor stays list none
list_fits stays list old none e f h = subst (λ (y : KeptList EntryKey Wrapper Made). FitsFor stays y none) (sym e) (subst (λ (y : News). FitsFor stays old y) (sym f) h)

pub list_plan : (touched : BoxKey → Bool) (list old : KeptList EntryKey Wrapper Made) (none : News) (plan : PlanList) → list ≡ old → none ≡ nil → IsPlan touched list none plan → IsPlan touched old nil plan
list_plan touched list old none plan e f h = subst (λ (y : KeptList EntryKey Wrapper Made). IsPlan touched y nil plan) e (subst (λ (y : News). IsPlan touched list y plan) f h)

pub none_fits : (stays : Leaf → Bool) (xs : Olds) (o : Option ℕ) (none : KeptList EntryKey Wrapper Made) (fresh : News) → o ≡ None → none ≡ record { graph = []; entries = nil } → FitsFor stays (old_list o xs) fresh → FitsFor stays none fresh
none_fits stays xs o none fresh e f ready = subst (λ (y : KeptList EntryKey Wrapper Made). FitsFor stays y fresh) (sym f) (subst (λ (p : Option ℕ). FitsFor stays (old_list p xs) fresh) e ready)

-- ---- a whole level

middle_false : (a b c : Bool) → (a && not b && c) ≡ true → b ≡ false
middle_false a false c h = refl
middle_false true true c h = absurd (let bad : false ≡ true = h in cc)
middle_false false true c h = absurd (let bad : false ≡ true = h in cc)

module _ (touched : BoxKey → Bool) (kept : KeptList EntryKey Wrapper Made) (fresh : News) (ready : FitsFor (is_untouched touched) kept fresh) where
  abbrev stays : Leaf → Bool
  stays = is_untouched touched

  abbrev xs : Olds
  xs = kept.entries

  fits_each : (rest : News) → ((w : Wrapper) (i : News) → HasGroup rest w i → GroupFits touched xs (place_in touched xs (entry_names.group w)) i) → EntriesFit touched xs rest
  fits_each nil h = tt
  fits_each (leaf m rest) h = fits_each rest h
  fits_each (group w i rest) h = (h w i (inl (refl, refl)), fits_each rest (λ v j k. h v j (inr k)))

  pub entries_fit : EntriesFit touched xs fresh
  entries_fit = fits_each fresh (λ w i k. record {
    there = (old_is w xs).0;
    fits = subst (λ (y : KeptList EntryKey Wrapper Made). FitsFor stays y i) (sym (old_is w xs).1)
        (subst (λ (y : News). FitsFor stays (within entry_names made_leaf (entry_names.group w) xs) y) (within_new_is stays fresh w i (once_of (new_names fresh) (ready.fits.once_new [])) k) (fits_in_group stays kept fresh (entry_names.group w) ready));
  })

  abbrev names : List EntryKey
  names = new_names fresh

  -- at each place of a group to go into there is one, of another name than the new ones
  abbrev Inner : Olds → ℕ → Type 0
  Inner ys i = (g : Ordered EntryKey Wrapper) × (j : Olds) × (at i (ones ys) ≡ Some (inr (g, j))) × Has (ones ys) (inr (g, j)) × (is_in same_entry names (entry_names.group g.of) ≡ false)

  after_leaf : (m : Made) (ys : Olds) (i n : ℕ) → suc i ≡ n → Inner ys i → Inner (leaf m ys) n
  after_leaf m ys i n e s = (s.0, s.1, subst (λ (k : ℕ). at k (ones (leaf m ys)) ≡ Some (inr (s.0, s.1))) e s.2, inr s.3, s.4)

  after_group : (g : Ordered EntryKey Wrapper) (l ys : Olds) (i n : ℕ) → suc i ≡ n → Inner ys i → Inner (group g l ys) n
  after_group g l ys i n e s = (s.0, s.1, subst (λ (k : ℕ). at k (ones (group g l ys)) ≡ Some (inr (s.0, s.1))) e s.2, inr s.3, s.4)

  abbrev at_inner : ℕ → Olds → List ℕ
  at_inner b ys = inner_places entry_names stays names b (kept_leaves ys)

  one_less : (ys : Olds) (i : ℕ) → Has (at_inner 1 ys) i → (m : ℕ) × Has (at_inner 0 ys) m × (suc m ≡ i)
  one_less ys i h = map_has suc (at_inner 0 ys) i (subst (λ (ps : List ℕ). Has ps i) (inner_next entry_names stays names 0 (kept_leaves ys)) h)

  inner_there : (ys : Olds) (i : ℕ) → Has (at_inner 0 ys) i → Inner ys i
  inner_there nil i h = absurd h
  inner_there (leaf m ys) i h = let r = one_less ys i h in after_leaf m ys r.0 i r.2 (inner_there ys r.0 r.1)
  inner_there (group k l ys) i h = elim (cases (is_inner entry_names stays names k.of (kept_leaves l))) [
    | inl t ↦
        let q : Has (0 ∷ at_inner 1 ys) i = rw t at h in
        elim q [
          | inl e ↦ (k, l, subst (λ (n : ℕ). at n (ones (group k l ys)) ≡ Some (inr (k, l))) e refl, inl refl, middle_false _ (is_in same_entry names (entry_names.group k.of)) _ t)
          | inr m ↦ let r = one_less ys i m in after_group k l ys r.0 i r.2 (inner_there ys r.0 r.1)
        ]
    | inr f ↦
        let q : Has (at_inner 1 ys) i = rw f at h in
        let r = one_less ys i q in
        after_group k l ys r.0 i r.2 (inner_there ys r.0 r.1)
  ]

  one_fits : (i : ℕ) → Has (at_inner 0 xs) i → GroupFits touched xs (Some i) nil
  one_fits i h =
      let r = inner_there xs i h in
      let e : EntryKey = entry_names.group r.0.of in
      let list : KeptList EntryKey Wrapper Made = record { graph = r.0.graph; entries = r.1 } in
      let at_is : group_at i xs ≡ Some list = group_ones i xs ∙ ap one_group r.2 in
      let list_is : old_list (Some i) xs ≡ list = ap (λ z. unwrap_or z empty_kept) at_is in
      let was : within entry_names made_leaf e xs ≡ list = within_is xs r.0 r.1 (once_of (kept_names xs) (ready.fits.once_kept [])) r.3 in
      let none = within_new_none stays fresh e (λ k. never (is_in same_entry names e) (has_in same_entry same_entry-refl names e k) r.4) in
      record {
        there = ap is_some at_is;
        fits = subst (λ (y : KeptList EntryKey Wrapper Made). FitsFor stays y nil) (was ∙ sym list_is) (subst (λ (y : News). FitsFor stays (within entry_names made_leaf e xs) y) none (fits_in_group stays kept fresh e ready));
      }

  all_fit : (is : List ℕ) → ((i : ℕ) → Has is i → GroupFits touched xs (Some i) nil) → GroupsFit touched xs is
  all_fit [] h = tt
  all_fit (i ∷ is) h = (h i (inl refl), all_fit is (λ j k. h j (inr k)))

  pub groups_fit : (gone : List ℕ) (found : List (Option ℕ)) (inner : List ℕ) → IsLooked touched xs names gone found inner → GroupsFit touched xs inner
  groups_fit gone found inner looked = all_fit inner (λ i h. one_fits i (subst (λ (ps : List ℕ). Has ps i) looked.inner_are h))

-- ---- the same of equal things

pub looked_as : (touched : BoxKey → Bool) (old same : Olds) (keys chain : List EntryKey) (gone : List ℕ) (found : List (Option ℕ)) (inner : List ℕ) → same ≡ old → keys ≡ chain → IsLooked touched same keys gone found inner
    → IsLooked touched old chain gone found inner
looked_as touched old same keys chain gone found inner e f h =
    subst (λ (z : Olds). IsLooked touched z chain gone found inner) e (subst (λ (z : List EntryKey). IsLooked touched same z gone found inner) f h)

module _ (gone went : List ℕ) (names ks : List EntryKey) (found got : List (Option ℕ)) (g h : Graph EntryKey) (a : went ≡ gone) (b : ks ≡ names) (c : got ≡ found) (d : h ≡ g) where
  pub can_patch_as : CanBePatched gone names found g → CanBePatched went ks got h
  can_patch_as r =
      subst (λ (z : List ℕ). CanBePatched z ks got h) (sym a) (subst (λ (z : List EntryKey). CanBePatched gone z got h) (sym b)
      (subst (λ (z : List (Option ℕ)). CanBePatched gone names z h) (sym c) (subst (λ (z : Graph EntryKey). CanBePatched gone names found z) (sym d) r)))

  pub is_patched_as : (p : PatchOf EntryKey) → IsPatched went ks got h p → IsPatched gone names found g p
  is_patched_as p r =
      subst (λ (z : Graph EntryKey). IsPatched gone names found z p) d (subst (λ (z : List (Option ℕ)). IsPatched gone names z h p) c
      (subst (λ (z : List EntryKey). IsPatched gone z got h p) b (subst (λ (z : List ℕ). IsPatched z ks got h p) a r)))
