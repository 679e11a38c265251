use Rattle.std.proofs.Common.{arith, ap, ◌∙◌, sym, subst, refl, length, [], ◌∷◌, Some}
use Rattle.std.specs.Prelude.{IfOk, map}
use Rattle.rd_graph.specs.Orders.{Once}
use Rattle.rd_list.specs.Entries.{list_size, nil}
use Rattle.rd_list.specs.EntryNames.{new_names}
use Rattle.rd_list.specs.NewView.{new_entries, in_runs}
use Rattle.rd_merge.specs.Going.{is_untouched}
use Rattle.rd_merge.specs.Internal.Fitting.{FitsFor}
use Rattle.rd_merge.specs.Looking.{kept_names}
use Rattle.rd_merge.specs.Merging.{IsPlan}
use Rattle.rd_merge.specs.Plans.{IsGroupPlace, old_list, made_count}
use Rattle.rd_merge.specs.PlanView.{steps_seen}
use Rattle.rd_merge.specs.Internal.Adding.{AddsSteps}
use Rattle.rd_merge.specs.Internal.Planning.{EntriesFit, GroupsFit, NewSteps, InnerSteps, place_in}
use Rattle.rd_merge.proofs.PlanLoops.{steps_append, whole_take, run_within, run_found, run_after, run_fits, run_steps, run_size_at, adds_none, adds_next, adds_one, group_fit, group_smaller, group_step, leaf_step, inner_next_step, fit_at, place_here, found_long, groups_at, new_size_at, group_within, group_no_leaf, group_list, group_size, list_fits, list_plan, none_fits, entries_fit, groups_fit, looked_as, can_patch_as, is_patched_as}
use Rattle.rd_merge.proofs.PlannedLevel.{can_patch, planned, few_made}
use Rattle.rd_merge.proofs.preparing.+planning.Goals as goal

-- ---- plan_entries

pub plan_entries-loop-run-init : goal.plan_entries-loop-run-init
plan_entries-loop-run-init g t c = record {
  steps = subst (λ us. NewSteps (g.T.Touches.is_touched c.args.tree.now) c.args.kept.now.entries nil (steps_seen us)) (sym c.in_ok-steps.ensures.items) tt;
  rest = c.requires.found;
}

pub plan_entries-split_at-requires : goal.plan_entries-split_at-requires
plan_entries-split_at-requires g t c =
    run_within (g.T.Touches.is_touched c.args.tree.now) c.args.kept.now.entries c.args.runs.now c.loop-run.run-index c.run-item.result c.loop-run-test.true c.run-item.is c.len.result (c.len.ensures ∙ c.run-item.result.ok.0) c.loop-run.rest.now c.loop-run.invariant.rest

pub plan_entries-push_run-requires : goal.plan_entries-push_run-requires
plan_entries-push_run-requires g t c κs within =
    let touched = g.T.Touches.is_touched c.args.tree.now in
    let xs = c.args.kept.now.entries in
    let size = run_size_at touched xs c.args.runs.now c.loop-run.run-index c.run-item.result c.loop-run-test.true c.run-item.is c.deref.result.now c.deref.ensures.value in (
      omega (arith, size, c.decreases),
      (
        within.0,
        (
          within.1,
          (
            run_fits touched xs c.args.runs.now c.loop-run.run-index c.run-item.result c.loop-run-test.true c.run-item.is c.deref.result.now c.deref.ensures.value c.requires.fit,
            c.split_at.ensures.front
                ∙ run_found touched xs c.args.runs.now c.loop-run.run-index c.run-item.result c.loop-run-test.true c.run-item.is c.len.result (c.len.ensures ∙ c.run-item.result.ok.0) c.loop-run.rest.now c.loop-run.invariant.rest c.deref.result.now c.deref.ensures.value,
          ),
        ),
      ),
    )

pub plan_entries-loop-run-preserved : goal.plan_entries-loop-run-preserved
plan_entries-loop-run-preserved g t c = record {
  steps =
      let a = c.in_ok-push_run.ensures in
      run_steps (g.T.Touches.is_touched c.args.tree.now) c.args.kept.now.entries c.args.runs.now c.loop-run.run-index c.run-item.result c.loop-run-test.true c.run-item.is c.deref.result.now c.loop-run.planned.steps.items a.0 _
      c.deref.ensures.value c.loop-run.invariant.steps a.2 a.1;
  rest = c.split_at.ensures.back
      ∙ run_after (g.T.Touches.is_touched c.args.tree.now) c.args.kept.now.entries c.args.runs.now c.loop-run.run-index c.run-item.result c.loop-run-test.true c.run-item.is c.len.result (c.len.ensures ∙ c.run-item.result.ok.0) c.loop-run.rest.now c.loop-run.invariant.rest;
}

pub plan_entries-returns : goal.plan_entries-returns
plan_entries-returns g t c =
    subst (λ es. NewSteps (g.T.Touches.is_touched c.args.tree.now) c.args.kept.now.entries (in_runs es) (steps_seen c.loop-run.planned.steps.items)) (whole_take c.args.runs.now c.loop-run.run-index c.loop-run-test.false) c.loop-run.invariant.steps

-- ---- push_run

pub push_run-loop-i-init : goal.push_run-loop-i-init
push_run-loop-i-init g t c = record { steps = adds_none (g.T.Touches.is_touched c.args.tree.now) c.args.kept.now.entries _ }

pub push_run-bounds-found-i : goal.push_run-bounds-found-i
push_run-bounds-found-i g t c = found_long (g.T.Touches.is_touched c.args.tree.now) c.args.kept.now.entries c.args.new.now c.loop-i.i c.args.found.now c.loop-i-test.true c.requires.found

pub push_run-push_step-requires : goal.push_run-push_step-requires
push_run-push_step-requires g t c κs within =
    let touched = g.T.Touches.is_touched c.args.tree.now in
    let xs = c.args.kept.now.entries in
    let size = new_size_at c.args.new.now c.loop-i.i c.index-new-i.result c.loop-i-test.true c.index-new-i.is in (
      omega (arith, size, c.decreases),
      (
        within.0,
        (
          within.1,
          (
            fit_at touched xs c.args.new.now c.loop-i.i c.index-new-i.result c.loop-i-test.true c.index-new-i.is c.requires.fit,
            place_here touched xs c.args.new.now c.loop-i.i c.index-new-i.result _ c.args.found.now c.loop-i-test.true c.index-new-i.is c.requires.found,
          ),
        ),
      ),
    )

pub push_run-loop-i-preserved : goal.push_run-loop-i-preserved
push_run-loop-i-preserved g t c = record {
  steps = adds_next (g.T.Touches.is_touched c.args.tree.now) c.args.kept.now.entries c.args.new.now c.loop-i.i c.index-new-i.result c.args.planned.now.steps.items c.loop-i.planned.steps.items _ c.loop-i-test.true c.index-new-i.is c.loop-i.invariant.steps c.in_ok-push_step.ensures;
}

pub push_run-returns : goal.push_run-returns
push_run-returns g t c =
    subst (λ es. AddsSteps (g.T.Touches.is_touched c.args.tree.now) c.args.kept.now.entries (new_entries es) c.args.planned.now.steps.items c.loop-i.planned.steps.items) (whole_take c.args.new.now c.loop-i.i c.loop-i-test.false) c.loop-i.invariant.steps

-- ---- push_step

pub push_step-returns-in_ok-push-in-Leaf : goal.push_step-returns-in_ok-push-in-Leaf
push_step-returns-in_ok-push-in-Leaf g t c =
    let touched = g.T.Touches.is_touched c.args.tree.now in
    let xs = c.args.kept.now.entries in
    adds_one touched xs (new_entries (c.args.entry.now ∷ [])) _ _ _ c.in_ok-push-in-Leaf.ensures.items (leaf_step touched xs c.args.entry.now c.in-Leaf.field-0 c.args.place c.in-Leaf.is c.requires.place)

pub push_step-plan_group_step-requires : goal.push_step-plan_group_step-requires
push_step-plan_group_step-requires g t c κs within =
    let touched = g.T.Touches.is_touched c.args.tree.now in
    let i = c.in-Group in
    let size = group_smaller touched c.args.kept.now.entries c.args.entry.now _ _ _ _ i.is in
    (omega (arith, size, c.decreases), (within.0, (within.1, group_fit touched c.args.kept.now.entries c.args.entry.now _ _ _ _ c.args.place i.is c.requires.place c.requires.fit)))

pub push_step-returns-in_ok-push-in-Group : goal.push_step-returns-in_ok-push-in-Group
push_step-returns-in_ok-push-in-Group g t c =
    let touched = g.T.Touches.is_touched c.args.tree.now in
    let xs = c.args.kept.now.entries in
    let i = c.in-Group in
    let step = c.in_ok-step-in-Group.step in
    adds_one touched xs (new_entries (c.args.entry.now ∷ [])) _ _ step c.in_ok-push-in-Group.ensures.items
    (group_step touched xs c.args.entry.now _ _ _ _ c.args.place (steps_seen (step ∷ [])) i.is c.requires.place c.in_ok-step-in-Group.ensures)

-- ---- plan_groups

pub plan_groups-loop-place-init : goal.plan_groups-loop-place-init
plan_groups-loop-place-init g t c = record { steps = subst (λ us. InnerSteps (g.T.Touches.is_touched c.args.tree.now) c.args.kept.now.entries [] (steps_seen us)) (sym c.in_ok-steps.ensures.items) tt }

pub plan_groups-plan_kept_group-requires : goal.plan_groups-plan_kept_group-requires
plan_groups-plan_kept_group-requires g t c κs within =
    (omega (arith, c.decreases), (within.0, (within.1, groups_at (g.T.Touches.is_touched c.args.tree.now) c.args.kept.now.entries c.args.places.now c.loop-place.place-index c.loop-place-test.true c.requires)))

pub plan_groups-loop-place-preserved : goal.plan_groups-loop-place-preserved
plan_groups-loop-place-preserved g t c = record {
  steps = inner_next_step (g.T.Touches.is_touched c.args.tree.now) c.args.kept.now.entries c.args.places.now c.loop-place.place-index c.loop-place.steps.items c.push.new.self.items c.in_ok-step.step c.loop-place-test.true c.loop-place.invariant.steps c.in_ok-step.ensures
      c.in_ok-push.ensures.items;
}

pub plan_groups-returns : goal.plan_groups-returns
plan_groups-returns g t c =
    subst (λ ps. InnerSteps (g.T.Touches.is_touched c.args.tree.now) c.args.kept.now.entries ps (steps_seen c.loop-place.steps.items)) (whole_take c.args.places.now c.loop-place.place-index c.loop-place-test.false) c.loop-place.invariant.steps

-- ---- plan_kept_group

pub plan_kept_group-entry_at-requires : goal.plan_kept_group-entry_at-requires
plan_kept_group-entry_at-requires g t c = group_within c.entries.result.now c.args.kept.now.entries c.entries.ensures c.args.place c.requires.there

pub plan_kept_group-unreachable-requires : goal.plan_kept_group-unreachable-requires
plan_kept_group-unreachable-requires g t c =
    group_no_leaf c.entries.result.now c.args.kept.now.entries c.entries.ensures c.args.place c.requires.there c.entry_at.result.now c.entry_at.ensures c.in-Leaf.field-0 c.in-Leaf.is

pub plan_kept_group-unreachable-unreachable : goal.plan_kept_group-unreachable-unreachable
plan_kept_group-unreachable-unreachable g t c =
    group_no_leaf c.entries.result.now c.args.kept.now.entries c.entries.ensures c.args.place c.requires.there c.entry_at.result.now c.entry_at.ensures c.in-Leaf.field-0 c.in-Leaf.is

pub plan_kept_group-plan_level-requires : goal.plan_kept_group-plan_level-requires
plan_kept_group-plan_level-requires g t c κs within =
    let es = c.entries.result.now in
    let xs = c.args.kept.now.entries in
    let view = c.entries.ensures in
    let size = group_size es xs view c.args.place c.requires.there c.entry_at.result.now c.entry_at.ensures c.in-Group.group c.in-Group.is in
    let is = group_list es xs view c.args.place c.requires.there c.entry_at.result.now c.entry_at.ensures c.in-Group.group c.in-Group.is in
    let none = ap list_size c.empty-none.ensures in
    (omega (arith, size, none, c.decreases), (within.0, (within.1, list_fits (is_untouched (g.T.Touches.is_touched c.args.tree.now)) c.in-Group.group.inner (old_list (Some c.args.place) xs) c.empty-none.result is c.empty-none.ensures c.requires.fits)))

pub plan_kept_group-returns : goal.plan_kept_group-returns
plan_kept_group-returns g t c =
    let es = c.entries.result.now in
    let xs = c.args.kept.now.entries in
    let view = c.entries.ensures in
    let is = group_list es xs view c.args.place c.requires.there c.entry_at.result.now c.entry_at.ensures c.in-Group.group c.in-Group.is in (
      record {
        old_is = refl;
        new_is = refl;
        there = c.requires.there;
        plan = list_plan (g.T.Touches.is_touched c.args.tree.now) c.in-Group.group.inner (old_list (Some c.args.place) xs) c.empty-none.result c.in_ok-plan-in-Group.plan.value is c.empty-none.ensures
            (subst (IsPlan (g.T.Touches.is_touched c.args.tree.now) c.in-Group.group.inner c.empty-none.result) (sym c.in_ok-plan-in-Group.ensures.ok) c.in_ok-plan_level-in-Group.ensures);
      },
      tt,
    )

-- ---- plan_new_group

pub plan_new_group-plan_level-requires : goal.plan_new_group-plan_level-requires
plan_new_group-plan_level-requires g t c κs within =
    let none = ap (λ k. list_size k.entries) c.empty-none.ensures in
    (omega (arith, none, c.decreases), (within.0, (within.1, none_fits (is_untouched (g.T.Touches.is_touched c.args.tree.now)) c.args.kept.now.entries c.args.place c.empty-none.result c.args.new.now c.in_default.is c.empty-none.ensures c.requires.fits)))

pub plan_new_group-entry_at-requires : goal.plan_new_group-entry_at-requires
plan_new_group-entry_at-requires g t c =
    let there = subst (λ o. IsGroupPlace o c.args.kept.now.entries) c.in-Some.is c.requires.there in
    group_within c.entries.result.now c.args.kept.now.entries c.entries.ensures c.in-Some.place there

pub plan_new_group-unreachable-requires : goal.plan_new_group-unreachable-requires
plan_new_group-unreachable-requires g t c =
    let there = subst (λ o. IsGroupPlace o c.args.kept.now.entries) c.in-Some.is c.requires.there in
    group_no_leaf c.entries.result.now c.args.kept.now.entries c.entries.ensures c.in-Some.place there c.entry_at.result.now c.entry_at.ensures c.in-Leaf.field-0 c.in-Leaf.is

pub plan_new_group-unreachable-unreachable : goal.plan_new_group-unreachable-unreachable
plan_new_group-unreachable-unreachable g t c =
    let there = subst (λ o. IsGroupPlace o c.args.kept.now.entries) c.in-Some.is c.requires.there in
    group_no_leaf c.entries.result.now c.args.kept.now.entries c.entries.ensures c.in-Some.place there c.entry_at.result.now c.entry_at.ensures c.in-Leaf.field-0 c.in-Leaf.is

pub plan_new_group-plan_level-requires-in-Group : goal.plan_new_group-plan_level-requires-in-Group
plan_new_group-plan_level-requires-in-Group g t c κs within =
    let es = c.entries.result.now in
    let xs = c.args.kept.now.entries in
    let view = c.entries.ensures in
    let there = subst (λ o. IsGroupPlace o xs) c.in-Some.is c.requires.there in
    let size = group_size es xs view c.in-Some.place there c.entry_at.result.now c.entry_at.ensures c.in-Group.group c.in-Group.is in
    let is = group_list es xs view c.in-Some.place there c.entry_at.result.now c.entry_at.ensures c.in-Group.group c.in-Group.is ∙ ap (λ o. old_list o xs) (sym c.in-Some.is) in
    (omega (arith, size, c.decreases), (within.0, (within.1, subst (λ y. FitsFor (is_untouched (g.T.Touches.is_touched c.args.tree.now)) y c.args.new.now) (sym is) c.requires.fits)))

pub plan_new_group-returns : goal.plan_new_group-returns
plan_new_group-returns g t c =
    let es = c.entries.result.now in
    let xs = c.args.kept.now.entries in
    let view = c.entries.ensures in
    let there = subst (λ o. IsGroupPlace o xs) c.in-Some.is c.requires.there in
    let is = group_list es xs view c.in-Some.place there c.entry_at.result.now c.entry_at.ensures c.in-Group.group c.in-Group.is ∙ ap (λ o. old_list o xs) (sym c.in-Some.is) in
    subst (λ y. IfOk c.plan_level-in-Group.result (IsPlan (g.T.Touches.is_touched c.args.tree.now) y c.args.new.now)) is c.plan_level-in-Group.ensures

-- ---- plan_level

pub plan_level-look-requires-clause-names : goal.plan_level-look-requires-clause-names
plan_level-look-requires-clause-names g t c =
    let names = c.deref.ensures.value ∙ c.in_ok-names.ensures in
    subst (λ ks. Once ks) (sym names) (c.requires.fits.once_new [])

pub plan_level-look-requires-clause-entries : goal.plan_level-look-requires-clause-entries
plan_level-look-requires-clause-entries g t c =
    let entries = c.blocked-level.ensures.entries in
    subst (λ ys. Once (kept_names ys)) (sym entries) (c.requires.fits.once_kept [])

pub plan_level-look-requires-clause-covers : goal.plan_level-look-requires-clause-covers
plan_level-look-requires-clause-covers g t c =
    c.blocked-level.ensures.covers

pub plan_level-patch_of-requires : goal.plan_level-patch_of-requires
plan_level-patch_of-requires g t c =
    let touched = g.T.Touches.is_touched c.args.tree.now in
    let keys = c.in_ok-names.ensures in
    let entries = c.blocked-level.ensures.entries in
    let l = c.in_ok-looked.looked in
    let looked = looked_as touched c.args.kept.now.entries _ _ (new_names c.args.new.now) l.gone.items l.found.items l.inner.items entries (c.deref.ensures.value ∙ keys) c.in_ok-looked.ensures in
    can_patch_as l.gone.items _ (new_names c.args.new.now) _ l.found.items _ c.args.kept.now.graph _ c.deref-2.ensures.value (c.deref-3.ensures.value ∙ keys) c.deref-4.ensures.value refl
    (can_patch touched c.args.kept.now c.args.new.now c.requires l.gone.items l.found.items l.inner.items looked)

pub plan_level-plan_entries-requires : goal.plan_level-plan_entries-requires
plan_level-plan_entries-requires g t c κs within =
    let touched = g.T.Touches.is_touched c.args.tree.now in
    let xs = c.args.kept.now.entries in
    let keys = c.in_ok-names.ensures in
    let entries = c.blocked-level.ensures.entries in
    let l = c.in_ok-looked.looked in
    let looked = looked_as touched xs _ _ (new_names c.args.new.now) l.gone.items l.found.items l.inner.items entries (c.deref.ensures.value ∙ keys) c.in_ok-looked.ensures in
    let new_is = ap in_runs c.deref-5.ensures.value ∙ c.new.view_is in
    let size = ap list_size new_is in (
      omega (arith, size, c.decreases),
      (
        within.0,
        (
          within.1,
          (
            subst (λ z. EntriesFit touched xs z) (sym new_is) (entries_fit touched c.args.kept.now c.args.new.now c.requires),
            c.deref-6.ensures.value ∙ looked.found_are ∙ ap (λ z. map (λ k. place_in touched xs k) (new_names z)) (sym new_is),
          ),
        ),
      ),
    )

pub plan_level-plan_groups-requires : goal.plan_level-plan_groups-requires
plan_level-plan_groups-requires g t c κs within =
    let touched = g.T.Touches.is_touched c.args.tree.now in
    let xs = c.args.kept.now.entries in
    let keys = c.in_ok-names.ensures in
    let entries = c.blocked-level.ensures.entries in
    let l = c.in_ok-looked.looked in
    let looked = looked_as touched xs _ _ (new_names c.args.new.now) l.gone.items l.found.items l.inner.items entries (c.deref.ensures.value ∙ keys) c.in_ok-looked.ensures in (
      omega (arith, c.decreases),
      (within.0, (within.1, subst (λ z. GroupsFit touched xs z) (sym c.deref-7.ensures.value) (groups_fit touched c.args.kept.now c.args.new.now c.requires l.gone.items l.found.items l.inner.items looked))),
    )

pub plan_level-same-patch : goal.plan_level-same-patch
plan_level-same-patch g t c = refl

pub plan_level-with_room-requires : goal.plan_level-with_room-requires
plan_level-with_room-requires g t c =
    let touched = g.T.Touches.is_touched c.args.tree.now in
    let xs = c.args.kept.now.entries in
    let keys = c.in_ok-names.ensures in
    let entries = c.blocked-level.ensures.entries in
    let l = c.in_ok-looked.looked in
    let looked = looked_as touched xs _ _ (new_names c.args.new.now) l.gone.items l.found.items l.inner.items entries (c.deref.ensures.value ∙ keys) c.in_ok-looked.ensures in
    let fits = c.in_ok-patch.ensures.fits in
    let patched = is_patched_as l.gone.items _ (new_names c.args.new.now) _ l.found.items _ c.args.kept.now.graph _ c.deref-2.ensures.value (c.deref-3.ensures.value ∙ keys) c.deref-4.ensures.value refl c.in_ok-patch.patch c.in_ok-patch.ensures.patched in
    let new_is = ap in_runs c.deref-5.ensures.value ∙ c.new.view_is in
    let firsts = subst (λ z. NewSteps touched xs z (steps_seen c.in_ok-planned.planned.steps.items)) new_is c.in_ok-planned.ensures in
    let lasts = subst (λ z. InnerSteps touched xs z (steps_seen c.in_ok-inner.inner.items)) c.deref-7.ensures.value c.in_ok-inner.ensures in
    let few = few_made touched c.args.kept.now c.args.new.now c.requires l.gone.items l.found.items l.inner.items looked c.in_ok-patch.patch fits patched (steps_seen c.in_ok-planned.planned.steps.items) (steps_seen c.in_ok-inner.inner.items) firsts lasts in
    let all = ap made_count (ap steps_seen c.in_ok-append.ensures.items ∙ steps_append c.in_ok-planned.planned.steps.items c.in_ok-inner.inner.items) in
    let many = ap length keys in
    let ok = c.in_ok-names.names.ok in
    let len = c.len-2.ensures in
    omega (arith, few, all, many, ok.0, len)

pub plan_level-returns : goal.plan_level-returns
plan_level-returns g t c =
    let touched = g.T.Touches.is_touched c.args.tree.now in
    let xs = c.args.kept.now.entries in
    let keys = c.in_ok-names.ensures in
    let entries = c.blocked-level.ensures.entries in
    let l = c.in_ok-looked.looked in
    let looked = looked_as touched xs _ _ (new_names c.args.new.now) l.gone.items l.found.items l.inner.items entries (c.deref.ensures.value ∙ keys) c.in_ok-looked.ensures in
    let fits = c.in_ok-patch.ensures.fits in
    let patched = is_patched_as l.gone.items _ (new_names c.args.new.now) _ l.found.items _ c.args.kept.now.graph _ c.deref-2.ensures.value (c.deref-3.ensures.value ∙ keys) c.deref-4.ensures.value refl c.in_ok-patch.patch c.in_ok-patch.ensures.patched in
    let new_is = ap in_runs c.deref-5.ensures.value ∙ c.new.view_is in
    let firsts = subst (λ z. NewSteps touched xs z (steps_seen c.in_ok-planned.planned.steps.items)) new_is c.in_ok-planned.ensures in
    let lasts = subst (λ z. InnerSteps touched xs z (steps_seen c.in_ok-inner.inner.items)) c.deref-7.ensures.value c.in_ok-inner.ensures in
    subst (λ p. IsPlan touched c.args.kept.now c.args.new.now p) (sym c.in_ok-plan.ensures) (subst (λ z. IsPlan touched c.args.kept.now c.args.new.now (record { patch = c.in_ok-patch.patch; steps = z })) (sym (ap steps_seen c.in_ok-append.ensures.items ∙ steps_append c.in_ok-planned.planned.steps.items c.in_ok-inner.inner.items))
    (planned touched c.args.kept.now c.args.new.now c.requires l.gone.items l.found.items l.inner.items looked c.in_ok-patch.patch fits patched (steps_seen c.in_ok-planned.planned.steps.items) (steps_seen c.in_ok-inner.inner.items) firsts lasts))
