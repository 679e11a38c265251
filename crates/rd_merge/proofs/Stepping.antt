-- Steps of a plan, one after another.
use Rattle.std.proofs.Common.{◌≡◌, refl, ap, ◌∙◌, sym, subst, ℕ, suc, ◌+◌, ◌<◌, set, Bool, true, false, List, [], ◌∷◌, length, arith, Box, Global}
use Rattle.std.specs.Prelude.{Option, Some, None, is_some, unwrap_or}
use Rattle.std.specs.declared.vec.Vec.{Vec}
use Rattle.rd_graph.specs.Gathered.{IsLine}
use Rattle.rd_item.specs.Items.{Made}
use Rattle.rd_keys.specs.declared.entry.EntryKey.{EntryKey}
use Rattle.rd_list.specs.Wrappers.{Wrapper}
use Rattle.rd_list.specs.Entries.{Entries, nil, leaf, ◌▷◌, list_size}
use Rattle.rd_list.specs.Kept.{KeptList}
use Rattle.rd_merge.specs.Plans.{PlanList, Steps, IsGroupPlace, IsNamed, IsPlace, MakesNone, PlacesFit, StepsFit, filled, first_leaf, grouped_as, list_for, made_count, old_list, put_entry, size_of, stepped, wrapper_for}
use Rattle.rd_merge.specs.PlanView.{steps_seen}
use Rattle.rd_merge.specs.Internal.Moving.{IsSameBut, NoneMade, left_after}
use Rattle.rd_graph.specs.Runs.{HasLineRoom}
use Rattle.rd_merge.specs.declared.plan.Plan.{Plan}
use Rattle.rd_merge.specs.declared.plan.Step.{Step}
use Rattle.rd_merge.specs.declared.plan.Step.TheVariants as step
use Rattle.rd_list.specs.KeptView.{kept_entries}
use Rattle.rd_list.specs.declared.kept.Entry.{Entry}
use Rattle.rd_list.specs.declared.kept.Entry.TheVariants as kept
use Rattle.rd_list.proofs.Joins.{join_assoc, join-nil}
use Rattle.rd_merge.proofs.InPlace.{Olds, put_at, group_at-join, with-join, wrapper_at-join}

abbrev pub News : Type 0
News = Entries Wrapper Made

-- ---- the first of some steps, and those after it

module _ {A : Type 0} where
  pub first_made : (s : Step A) (more : List (Step A)) → made_count (steps_seen (s ∷ more)) ≡ made_count (steps_seen (s ∷ [])) + made_count (steps_seen more)
  first_made (step.Leaf place) more = omega arith
  first_made (step.Group o b plan) more = omega arith

  pub first_size : (s : Step A) (more : List (Step A)) → list_size (steps_seen (s ∷ more)) ≡ list_size (steps_seen (s ∷ [])) + list_size (steps_seen more)
  first_size (step.Leaf place) more = omega arith
  first_size (step.Group o b plan) more = omega arith

  pub none_counted : (rest : List (Step A)) → length rest ≡ 0 → made_count (steps_seen rest) ≡ 0
  none_counted [] e = refl
  none_counted (s ∷ rest) e = absurd (omega (arith, e))

  pub none_stepped : (rest : List (Step A)) (k : Olds) (n : News) → length rest ≡ 0 → stepped (steps_seen rest) k n ≡ k
  none_stepped [] k n e = refl
  none_stepped (s ∷ rest) k n e = absurd (omega (arith, e))

  module _ (size : ℕ) (s : Step A) (more : List (Step A)) (k : Olds) (n : News) where
    first_fits : (t : Step A) → StepsFit size (steps_seen (t ∷ more)) k n → StepsFit size (steps_seen (t ∷ [])) k n
    first_fits (step.Leaf place) h = (h.0, h.1, tt)
    first_fits (step.Group o b plan) h = (h.0, tt)

    later_fits : (t : Step A) → StepsFit size (steps_seen (t ∷ more)) k n → StepsFit size (steps_seen more) (stepped (steps_seen (t ∷ [])) k n) (left_after (steps_seen (t ∷ [])) n)
    later_fits (step.Leaf place) h = h.2
    later_fits (step.Group o b plan) h = h.1

    later_stepped : (t : Step A) → stepped (steps_seen (t ∷ more)) k n ≡ stepped (steps_seen more) (stepped (steps_seen (t ∷ [])) k n) (left_after (steps_seen (t ∷ [])) n)
    later_stepped (step.Leaf place) = refl
    later_stepped (step.Group o b plan) = refl

    module _ (rest : List (Step A)) (next : rest ≡ s ∷ more) where
      pub now_fits : (len : ℕ) → len ≡ size → StepsFit size (steps_seen rest) k n → StepsFit len (steps_seen (s ∷ [])) k n
      now_fits len e h = subst (λ z. StepsFit z (steps_seen (s ∷ [])) k n) (sym e) (first_fits s (subst (λ zs. StepsFit size (steps_seen zs) k n) next h))

      module _ (k2 : Olds) (n2 : News) (put : k2 ≡ stepped (steps_seen (s ∷ [])) k n) (left : n2 ≡ left_after (steps_seen (s ∷ [])) n) where
        pub then_fits : StepsFit size (steps_seen rest) k n → StepsFit size (steps_seen more) k2 n2
        then_fits h =
            subst (λ (x : Olds). StepsFit size (steps_seen more) x n2) (sym put)
            (subst (λ (y : News). StepsFit size (steps_seen more) (stepped (steps_seen (s ∷ [])) k n) y) (sym left) (later_fits s (subst (λ zs. StepsFit size (steps_seen zs) k n) next h)))

        pub then_stepped : stepped (steps_seen more) k2 n2 ≡ stepped (steps_seen rest) k n
        then_stepped =
            ap (λ (x : Olds). stepped (steps_seen more) x n2) put ∙ ap (λ (y : News). stepped (steps_seen more) (stepped (steps_seen (s ∷ [])) k n) y) left ∙ sym (later_stepped s) ∙ sym (ap (λ zs. stepped (steps_seen zs) k n) next)

-- ---- before the first step

pub start_level : {A : Type 0} (es ms : List (Entry A)) → length ms ≡ 0 → kept_entries es ▷ kept_entries ms ≡ kept_entries es
start_level es [] e = join-nil (kept_entries es)
start_level es (m ∷ ms) e = absurd (omega (arith, e))

module _ (size : ℕ) (xs ys : Steps) (k k2 : Olds) (n n2 : News) (e : xs ≡ ys) (f : k ≡ k2) (h : n ≡ n2) where
  pub start_fits : StepsFit size ys k2 n2 → StepsFit size xs k n
  start_fits fits = rw (e, f, h) fits

  pub start_stepped : stepped xs k n ≡ stepped ys k2 n2
  start_stepped = rw (e, f, h) refl

-- ---- the line

pub line_so : (line given : Option (List ℕ)) (n m : ℕ) → line ≡ given → n ≡ m → IsLine given m → IsLine line n
line_so line given n m e f h = subst (λ o. IsLine o n) (sym e) (subst (IsLine given) (sym f) h)

pub none_made : (line given : Option (List ℕ)) (xs : Steps) (n : ℕ) → line ≡ given → n ≡ made_count xs → MakesNone given xs → NoneMade line n
none_made line None xs n e f h = subst (λ o. NoneMade o n) (sym e) (f ∙ h)
none_made line (Some l) xs n e f h = subst (λ o. NoneMade o n) (sym e) tt

pub room_so : {E B : Type 0} (line given : Option (List ℕ)) (room : Vec E B) → line ≡ given → HasLineRoom given room → HasLineRoom line room
room_so line given room e h = subst (λ o. HasLineRoom o room) (sym e) h

-- ---- groups with other entries on top of the level

module _ (k m : Olds) where
  old_list-join : (o : Option ℕ) → IsPlace o (size_of k) → old_list o (k ▷ m) ≡ old_list o k
  old_list-join None h = refl
  old_list-join (Some i) h = ap (λ z. unwrap_or z (record { graph = []; entries = nil })) (group_at-join i k m h)

  there-join : (o : Option ℕ) → IsPlace o (size_of k) → IsGroupPlace o (k ▷ m) → IsGroupPlace o k
  there-join None h t = tt
  there-join (Some i) h t = sym (ap is_some (group_at-join i k m h)) ∙ t

  wrapper_for-join : (b : Bool) (o : Option ℕ) (n : News) → IsPlace o (size_of k) → wrapper_for b o (k ▷ m) n ≡ wrapper_for b o k n
  wrapper_for-join true o n h = refl
  wrapper_for-join false None n h = refl
  wrapper_for-join false (Some i) n h = wrapper_at-join i k m h

  put_same : (o : Option ℕ) (k2 e : Olds) → IsPlace o (size_of k) → size_of k2 ≡ size_of k → IsSameBut o k k2 → put_entry o e (k2 ▷ m) ≡ put_entry o e (k ▷ m)
  put_same None k2 e h z same = ap (λ (x : Olds). (x ▷ m) ▷ e) same
  put_same (Some i) k2 e h z same = with-join i e k2 m (omega (arith, h, z)) ∙ ap (λ (x : Olds). x ▷ m) (same e) ∙ sym (with-join i e k m h)

module _ {A : Type 0} (s : Step A) (o : Option ℕ) (b : Bool) (boxed : Box (Plan A) Global) (is : s ≡ step.Group o b boxed) (plan : PlanList) (unboxed : plan ≡ boxed.value) where
  abbrev the_group : Step A
  the_group = step.Group o b boxed

  pub group_size : list_size (steps_seen (s ∷ [])) ≡ suc (list_size plan.steps)
  group_size = ap (λ (z : Step A). list_size (steps_seen (z ∷ []))) is ∙ omega (arith, ap (λ (p : PlanList). list_size p.steps) unboxed)

  module _ (size : ℕ) (k m : Olds) (n : News) (e : size_of k ≡ size) (fits : StepsFit size (steps_seen (s ∷ [])) (k ▷ m) n) where
    so : StepsFit (size_of k) (steps_seen (the_group ∷ [])) (k ▷ m) n
    so = subst (λ z. StepsFit z (steps_seen (the_group ∷ [])) (k ▷ m) n) (sym e) (subst (λ (t : Step A). StepsFit size (steps_seen (t ∷ [])) (k ▷ m) n) is fits)

    pub group_there : IsGroupPlace o k
    group_there = there-join k m o so.0.0 so.0.1

    pub group_named : IsNamed b o n
    group_named = so.0.2

    pub group_fits : PlacesFit plan (old_list o k) (list_for b n)
    group_fits =
        subst (λ p. PlacesFit p (old_list o k) (list_for b n)) (sym unboxed)
        (subst (λ (x : KeptList EntryKey Wrapper Made). PlacesFit boxed.value x (list_for b n)) (old_list-join k m o so.0.0) (record { patch = so.0.3; line = so.0.4; still = so.0.5; steps = so.0.6 }))

    pub group_stepped : (k2 entry : Olds) → size_of k2 ≡ size_of k → IsSameBut o k k2 → entry ≡ grouped_as (wrapper_for b o k n) (filled plan (old_list o k) (list_for b n)) → put_entry o entry (k2 ▷ m) ≡ stepped (steps_seen (s ∷ [])) (k ▷ m) n
    group_stepped k2 entry z same made =
        put_same k m o k2 entry so.0.0 z same
        ∙ ap (λ (x : Olds). put_entry o x (k ▷ m)) (made ∙ ap (λ p. grouped_as (wrapper_for b o k n) (filled p (old_list o k) (list_for b n))) unboxed ∙ sym (ap (λ w. grouped_as w (filled boxed.value (old_list o (k ▷ m)) (list_for b n))) (wrapper_for-join k m b o n so.0.0) ∙ ap (λ (x : KeptList EntryKey Wrapper Made). grouped_as (wrapper_for b o k n) (filled boxed.value x (list_for b n))) (old_list-join k m o so.0.0)))
        ∙ sym (ap (λ (t : Step A). stepped (steps_seen (t ∷ [])) (k ▷ m) n) is)

-- ---- what the step of a leaf comes to

module _ {A : Type 0} (s : Step A) (o : Option ℕ) (is : s ≡ step.Leaf o) (n : News) where
  -- one that is made stands on top
  pub leaf_made : o ≡ None → (k m m2 : Olds) → m2 ≡ m ▷ first_leaf n → k ▷ m2 ≡ stepped (steps_seen (s ∷ [])) (k ▷ m) n
  leaf_made none k m m2 e =
      ap (λ (x : Olds). k ▷ x) e ∙ sym (join_assoc k m (first_leaf n))
      ∙ sym (ap (λ (t : Step A). stepped (steps_seen (t ∷ [])) (k ▷ m) n) (is ∙ ap step.Leaf none))

  -- one that has a place stands there
  pub leaf_there : {B : Type 0} (i : ℕ) → o ≡ Some i → (es fs ms : List (Entry B)) (item : Made) → i < length es → fs ≡ set es i (kept.Leaf item) → leaf item nil ≡ first_leaf n
      → kept_entries fs ▷ kept_entries ms ≡ stepped (steps_seen (s ∷ [])) (kept_entries es ▷ kept_entries ms) n
  leaf_there i some es fs ms item h e this =
      put_at es fs ms o i (kept.Leaf item) some h e
      ∙ ap (λ (x : Olds). put_entry o x (kept_entries es ▷ kept_entries ms)) this
      ∙ sym (ap (λ (t : Step A). stepped (steps_seen (t ∷ [])) (kept_entries es ▷ kept_entries ms) n) is)

  pub leaf_within : (i : ℕ) → o ≡ Some i → (size : ℕ) (k : Olds) → StepsFit size (steps_seen (s ∷ [])) k n → i < size
  leaf_within i some size k fits = (subst (λ (t : Step A). StepsFit size (steps_seen (t ∷ [])) k n) (is ∙ ap step.Leaf some) fits).0
