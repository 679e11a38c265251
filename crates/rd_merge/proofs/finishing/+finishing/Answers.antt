use Rattle.std.proofs.Common.{arith, refl, ap, sym, subst, length, ◌∙◌, ◌≡◌, ◌+◌, ◌∷◌, ◌++◌, []}
use Rattle.std.specs.Prelude.{option_map, vec_len, None, Some}
use Rattle.rd_graph.specs.Patches.{line_of}
use Rattle.rd_graph.proofs.Patches.PutInPlace.{fits}
use Rattle.rd_list.specs.Entries.{◌▷◌, list_size}
use Rattle.rd_list.specs.Chunks.{AreCovered}
use Rattle.rd_list.specs.KeptView.{kept_entries}
use Rattle.rd_graph.specs.Runs.{places_of}
use Rattle.rd_merge.specs.Internal.Untaken.{untaken}
use Rattle.rd_merge.specs.Plans.{size_of, made_count}
use Rattle.rd_merge.specs.PlanView.{steps_seen}
use Rattle.rd_merge.proofs.InPlace.{kept-size}
use Rattle.rd_merge.proofs.Stepping.{start_level, start_fits, start_stepped, first_made, first_size, none_counted, now_fits, then_fits, then_stepped, line_so, none_made, room_so, group_size, group_there, group_named, group_fits, group_stepped, leaf_made, leaf_there, leaf_within}
use Rattle.rd_merge.proofs.finishing.+finishing.Goals as goal

pub finish-loop-step-init : goal.finish-loop-step-init
finish-loop-step-init g t c =
    let gives = c.into_iter-step-iterator.ensures.into_iter_gives.0 in
    let steps = ap steps_seen gives ∙ ap (λ p. p.steps) c.plan.view_is in
    let made_ok = c.plan.inside.made.ok in
    let empty = c.plan.invariant.0 in
    let level = start_level c.into_level-entries.result.entries.items c.plan.inside.made.items (omega (arith, made_ok.0, empty)) ∙ c.into_level-entries.ensures.seen.1 in
    let news = c.new-fresh.ensures in
    let ok = c.into_level-entries.result.entries.ok in
    let size = kept-size c.into_level-entries.result.entries.items in
    let kept_size = ap size_of c.into_level-entries.ensures.seen.1 in
    let count = ap made_count steps in
    let counted = ap (λ p. made_count p.steps) c.plan.view_is in
    let room = c.plan.invariant.1 in
    let listed = ap list_size steps in (
      tt,
      tt,
      start_fits (size_of c.args.kept.entries) (steps_seen c.into_iter-step-iterator.result.rest.items) c.args.plan.steps (kept_entries c.into_level-entries.result.entries.items ▷ kept_entries c.plan.inside.made.items) c.args.kept.entries (untaken c.new-fresh.result) c.args.new steps level news c.requires.steps,
      start_stepped (size_of c.args.kept.entries) (steps_seen c.into_iter-step-iterator.result.rest.items) c.args.plan.steps (kept_entries c.into_level-entries.result.entries.items ▷ kept_entries c.plan.inside.made.items) c.args.kept.entries (untaken c.new-fresh.result) c.args.new steps level news,
      omega (arith, ok.0, size, kept_size),
      omega (arith, empty, count),
      omega (arith, room, counted),
      omega (arith, listed),
      record { block = (omega arith, refl); chunk = (omega arith, refl) },
      c.into_level-entries.ensures.covers,
    )

pub finish-loop-step-init-derived : goal.finish-loop-step-init-derived
finish-loop-step-init-derived g t c = (tt, tt)

pub finish-finish_step-seek-requires : goal.finish-finish_step-seek-requires
finish-finish_step-seek-requires g t c κs within =
    let s = c.in-Some.step in
    let more = c.next.new.self.rest.items in
    let next = c.in-Some.ensures.steps.0 in
    let inv = c.loop-step.invariant in
    let size = ap (λ zs. list_size (steps_seen zs)) next ∙ first_size s more in
    let count = ap (λ zs. made_count (steps_seen zs)) next ∙ first_made s more in
    let listed = inv.7 in
    let counted = inv.5 in
    let room = inv.6 in (
      omega (arith, size, listed, c.decreases),
      (
        within,
        (
          now_fits (size_of c.args.kept.entries) s more (kept_entries c.loop-step.entries.items ▷ kept_entries c.loop-step.made.items) (untaken c.loop-step.fresh) c.loop-step.step-iterator.rest.items next (vec_len c.loop-step.entries) inv.4 inv.2,
          (omega (arith, count, counted, room), (inv.8, inv.9)),
        ),
      ),
    )

pub finish-loop-step-preserved : goal.finish-loop-step-preserved
finish-loop-step-preserved g t c =
    let s = c.in-Some.step in
    let more = c.next.new.self.rest.items in
    let rest = c.loop-step.step-iterator.rest.items in
    let next = c.in-Some.ensures.steps.0 in
    let inv = c.loop-step.invariant in
    let k = kept_entries c.loop-step.entries.items ▷ kept_entries c.loop-step.made.items in
    let n = untaken c.loop-step.fresh in
    let k2 = kept_entries c.finish_step-seek.new.entries.items ▷ kept_entries c.finish_step-seek.new.made.items in
    let n2 = untaken c.finish_step-seek.new.fresh in
    let size = ap (λ zs. list_size (steps_seen zs)) next ∙ first_size s more in
    let count = ap (λ zs. made_count (steps_seen zs)) next ∙ first_made s more in
    let listed = inv.7 in
    let counted = inv.5 in
    let room = inv.6 in
    let made = c.finish_step-seek.ensures.made in
    let wider = c.finish_step-seek.ensures.room in (
      inv.0,
      inv.1,
      then_fits (size_of c.args.kept.entries) s more k n rest next k2 n2 c.finish_step-seek.ensures.stepped c.finish_step-seek.ensures.left inv.2,
      then_stepped (size_of c.args.kept.entries) s more k n rest next k2 n2 c.finish_step-seek.ensures.stepped c.finish_step-seek.ensures.left ∙ inv.3,
      c.finish_step-seek.ensures.entries ∙ inv.4,
      omega (arith, count, counted, made),
      omega (arith, room, wider),
      omega (arith, size, listed),
      c.finish_step-seek.ensures.at,
      c.finish_step-seek.ensures.covers,
    )

pub finish-in_line-entries-requires-clause-line : goal.finish-in_line-entries-requires-clause-line
finish-in_line-entries-requires-clause-line g t c =
    let inv = c.loop-step.invariant in
    let ok = c.loop-step.step-iterator.rest.ok in
    let over = c.in-None.ensures.steps in
    let none = none_counted c.loop-step.step-iterator.rest.items (omega (arith, ok.0, over.0)) in
    let entries = inv.4 in
    let counted = inv.5 in
    line_so (option_map (λ l. places_of l.now) c.line-2.result) (line_of c.args.plan.patch) (vec_len c.loop-step.entries + vec_len c.loop-step.made) (size_of c.args.kept.entries + made_count c.args.plan.steps) (c.line-2.ensures ∙ ap (λ p. line_of p.patch) c.plan.view_is) (omega (arith, none, entries, counted)) c.requires.line

pub finish-in_line-entries-requires-clause-still : goal.finish-in_line-entries-requires-clause-still
finish-in_line-entries-requires-clause-still g t c =
    let inv = c.loop-step.invariant in
    let ok = c.loop-step.step-iterator.rest.ok in
    let over = c.in-None.ensures.steps in
    let none = none_counted c.loop-step.step-iterator.rest.items (omega (arith, ok.0, over.0)) in
    let counted = inv.5 in
    none_made (option_map (λ l. places_of l.now) c.line-2.result) (line_of c.args.plan.patch) c.args.plan.steps (vec_len c.loop-step.made) (c.line-2.ensures ∙ ap (λ p. line_of p.patch) c.plan.view_is) (omega (arith, none, counted)) c.requires.still

pub finish-in_line-entries-requires-clause-room : goal.finish-in_line-entries-requires-clause-room
finish-in_line-entries-requires-clause-room g t c = room_so (option_map (λ l. places_of l.now) c.line-2.result) (line_of c.plan.inside.patch) c.plan.inside.room c.line-2.ensures c.plan.invariant.2

pub finish-in_line_chunks-had-requires-clause-chunks : goal.finish-in_line_chunks-had-requires-clause-chunks
finish-in_line_chunks-had-requires-clause-chunks g t c = c.plan.invariant.3

pub finish-in_line_chunks-had-requires-clause-blocks : goal.finish-in_line_chunks-had-requires-clause-blocks
finish-in_line_chunks-had-requires-clause-blocks g t c = c.plan.invariant.4

pub finish-in_line_chunks-had-requires-clause-had : goal.finish-in_line_chunks-had-requires-clause-had
finish-in_line_chunks-had-requires-clause-had g t c = subst (AreCovered c.loop-step.had) (sym c.deref.ensures.value) c.loop-step.invariant.9

pub finish-in_line_chunks-had-requires-clause-line : goal.finish-in_line_chunks-had-requires-clause-line
finish-in_line_chunks-had-requires-clause-line g t c =
    let inv = c.loop-step.invariant in
    let ok = c.loop-step.step-iterator.rest.ok in
    let over = c.in-None.ensures.steps in
    let none = none_counted c.loop-step.step-iterator.rest.items (omega (arith, ok.0, over.0)) in
    let entries = inv.4 in
    let counted = inv.5 in
    let many = c.deref.ensures.len in
    let more = c.deref-2.ensures.len in
    line_so (option_map (λ l. places_of l.now) c.line.result) (line_of c.args.plan.patch) (length c.deref.result.now + length c.deref-2.result.now) (size_of c.args.kept.entries + made_count c.args.plan.steps) (c.line.ensures ∙ ap (λ p. line_of p.patch) c.plan.view_is) (omega (arith, none, entries, counted, many, more)) c.requires.line

pub finish-renew_chunks-chunks-requires-clause-chunks : goal.finish-renew_chunks-chunks-requires-clause-chunks
finish-renew_chunks-chunks-requires-clause-chunks g t c = c.plan.invariant.5

pub finish-renew_chunks-chunks-requires-clause-blocks : goal.finish-renew_chunks-chunks-requires-clause-blocks
finish-renew_chunks-chunks-requires-clause-blocks g t c = c.plan.invariant.6

pub finish-renew_chunks-chunks-requires-clause-had : goal.finish-renew_chunks-chunks-requires-clause-had
finish-renew_chunks-chunks-requires-clause-had g t c =
    let same = c.line.ensures ∙ sym c.line-2.ensures in
    let all = ap (λ es. es ++ c.deref-2.result.now) c.deref.ensures.value ∙ ap (λ es. c.loop-step.entries.items ++ es) c.deref-2.ensures.value in
    rw (c.deref-3.ensures.value, c.in_line-entries.ensures.items, ← same, ← all) c.in_line_chunks-had.ensures

pub finish-of-requires : goal.finish-of-requires
finish-of-requires g t c = subst (AreCovered c.renew_chunks-chunks.result) c.deref-3.ensures.value c.renew_chunks-chunks.ensures

pub finish-apply-requires : goal.finish-apply-requires
finish-apply-requires g t c = fits c.plan.inside.patch c.args.plan.patch c.into_level-entries.result.graph c.args.kept.graph (ap (λ p. p.patch) c.plan.view_is) c.into_level-entries.ensures.seen.0 c.requires.patch

pub finish_step-finish_group-entry-requires : goal.finish_step-finish_group-entry-requires
finish_step-finish_group-entry-requires g t c κs within =
    let i = c.in-Group in
    let ok = c.args.entries.now.ok in
    let k = kept_entries c.args.entries.now.items in
    let m = kept_entries c.args.made.now.items in
    let n = untaken c.args.fresh.now in
    let size = kept-size c.args.entries.now.items in
    let long : size_of k ≡ vec_len c.args.entries.now = omega (arith, size, ok.0) in
    let smaller = group_size c.args.step i.old i.is_new i.plan i.is c.into_inner.result c.into_inner.ensures in (
      omega (arith, smaller, c.decreases),
      (
        within,
        (
          group_there c.args.step i.old i.is_new i.plan i.is c.into_inner.result c.into_inner.ensures (vec_len c.args.entries.now) k m n long c.requires.fits,
          (
            group_named c.args.step i.old i.is_new i.plan i.is c.into_inner.result c.into_inner.ensures (vec_len c.args.entries.now) k m n long c.requires.fits,
            group_fits c.args.step i.old i.is_new i.plan i.is c.into_inner.result c.into_inner.ensures (vec_len c.args.entries.now) k m n long c.requires.fits,
          ),
        ),
      ),
    )

pub finish_step-returns-in-Group-clause-stepped : goal.finish_step-returns-in-Group-clause-stepped
finish_step-returns-in-Group-clause-stepped g t c =
    let i = c.in-Group in
    let ok = c.args.entries.now.ok in
    let later = c.finish_group-entry.new.entries.ok in
    let k = kept_entries c.args.entries.now.items in
    let m = kept_entries c.args.made.now.items in
    let n = untaken c.args.fresh.now in
    let size = kept-size c.args.entries.now.items in
    let size_later = kept-size c.finish_group-entry.new.entries.items in
    let len = c.finish_group-entry.ensures.len in
    let long : size_of k ≡ vec_len c.args.entries.now = omega (arith, size, ok.0) in
    c.put_in_chunk.ensures.put
    ∙ group_stepped c.args.step i.old i.is_new i.plan i.is c.into_inner.result c.into_inner.ensures (vec_len c.args.entries.now) k m n long c.requires.fits (kept_entries c.finish_group-entry.new.entries.items) (kept_entries (c.finish_group-entry.result ∷ []))
    (omega (arith, size, size_later, ok.0, later.0, len)) c.finish_group-entry.ensures.others c.finish_group-entry.ensures.made

pub finish_step-returns-in-Leaf-None-clause-stepped : goal.finish_step-returns-in-Leaf-None-clause-stepped
finish_step-returns-in-Leaf-None-clause-stepped g t c =
    let i = c.in-Leaf-None in
    let none : i.field-0 ≡ None = rw i.is at i.field-0-is in
    leaf_made c.args.step i.field-0 i.is (untaken c.args.fresh.now) none (kept_entries c.args.entries.now.items) (kept_entries c.args.made.now.items) (kept_entries c.push_next.new.made.items) c.push_next.ensures.put

pub finish_step-returns-in-Leaf-Some-clause-stepped : goal.finish_step-returns-in-Leaf-Some-clause-stepped
finish_step-returns-in-Leaf-Some-clause-stepped g t c =
    let i = c.in-Leaf-Some in
    let old = c.args.entries.now in
    let ok = old.ok in
    let some : i.field-0 ≡ Some i.place = rw i.is at i.field-0-is in
    let fits = leaf_within c.args.step i.field-0 i.is (untaken c.args.fresh.now) i.place some (vec_len old) (kept_entries old.items ▷ kept_entries c.args.made.now.items) c.requires.fits in
    leaf_there c.args.step i.field-0 i.is (untaken c.args.fresh.now) i.place some old.items c.put_item_in_chunk.new.entries.items c.args.made.now.items c.next_item-item.result (omega (arith, ok.0, fits)) c.put_item_in_chunk.ensures.put c.next_item-item.ensures.leaf
