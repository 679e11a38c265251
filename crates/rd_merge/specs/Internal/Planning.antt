-- The steps of a plan, entry by entry.
use Rattle.std.specs.Prelude.{◌≡◌, ℕ, Bool, true, false, List, [], ◌∷◌, Option, Some}
use Rattle.rd_keys.specs.Keys.{BoxKey}
use Rattle.rd_keys.specs.declared.entry.EntryKey.{EntryKey}
use Rattle.rd_item.specs.Items.{Made}
use Rattle.rd_graph.specs.Names.{place_of, same_entry}
use Rattle.rd_list.specs.Wrappers.{Wrapper}
use Rattle.rd_list.specs.Entries.{Entries, nil, leaf, group}
use Rattle.rd_list.specs.EntryNames.{entry_names}
use Rattle.rd_list.specs.Kept.{Ordered}
use Rattle.rd_merge.specs.Going.{is_untouched}
use Rattle.rd_merge.specs.Internal.Fitting.{FitsFor}
use Rattle.rd_merge.specs.Looking.{kept_names}
use Rattle.rd_merge.specs.Merging.{IsPlan}
use Rattle.rd_merge.specs.Plans.{GroupStep, Steps, IsGroupPlace, old_list}

module _ (touched : BoxKey → Bool) (kept : Entries (Ordered EntryKey Wrapper) Made) where
  -- a group stands at the place, if one is given, and its list and a new one fit
  pub record GroupFits (place : Option ℕ) (fresh : Entries Wrapper Made) : Type 0 where
    pub there : IsGroupPlace place kept
    pub fits : FitsFor (is_untouched touched) (old_list place kept) fresh

  -- the place of a name
  abbrev pub place_in : EntryKey → Option ℕ
  place_in k = place_of same_entry (kept_names kept) k

  -- The groups of a new level fit those of their names.
  abbrev pub EntriesFit : Entries Wrapper Made → Type 0
  EntriesFit nil = Unit {0}
  EntriesFit (leaf m rest) = EntriesFit rest
  EntriesFit (group w inner rest) = GroupFits (place_in (entry_names.group w)) inner × EntriesFit rest

  -- The groups at these places fit the empty list.
  abbrev pub GroupsFit : List ℕ → Type 0
  GroupsFit [] = Unit {0}
  GroupsFit (i ∷ places) = GroupFits (Some i) nil × GroupsFit places

  -- what a step says of a group: its place, whether a new entry goes into it, and a plan for its list
  pub record PlansGroup (place : Option ℕ) (fresh : Entries Wrapper Made) (is_new : Bool) (step : GroupStep) (inner : Steps) : Type 0 where
    pub old_is : step.old ≡ place
    pub new_is : step.is_new ≡ is_new
    pub there : IsGroupPlace place kept
    pub plan : IsPlan touched (old_list place kept) fresh (record { patch = step.patch; steps = inner })

  -- each entry of a new level has its step
  abbrev pub NewSteps : Entries Wrapper Made → Steps → Type 0
  NewSteps nil nil = Unit {0}
  NewSteps (leaf m rest) (leaf q steps) = (q ≡ place_in (entry_names.leaf m.leaf)) × NewSteps rest steps
  NewSteps (group w fresh rest) (group step inner steps) = PlansGroup (place_in (entry_names.group w)) fresh true step inner × NewSteps rest steps
  NewSteps _ _ = ⊥

  -- the step of a group of a new level with this list, which has this place
  abbrev pub IsGroupStep : Option ℕ → Entries Wrapper Made → Steps → Type 0
  IsGroupStep place fresh nil = ⊥
  IsGroupStep place fresh (leaf q steps) = ⊥
  IsGroupStep place fresh (group step inner steps) = PlansGroup place fresh true step inner × (steps ≡ nil)

  -- each of these places has its step, into which no new entry goes
  abbrev pub InnerSteps : List ℕ → Steps → Type 0
  InnerSteps [] nil = Unit {0}
  InnerSteps (i ∷ places) (group step inner steps) = PlansGroup (Some i) nil false step inner × InnerSteps places steps
  InnerSteps _ _ = ⊥
