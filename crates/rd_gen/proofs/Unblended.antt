-- What is drawn has no member of version 2.
use Rattle.std.proofs.Common.{ℕ, zero, suc, ◌%◌, ◌==◌, Bool, true, false, nat_lt, if◌then◌else◌, List, [], ◌∷◌, All, refl}
use Rattle.std.proofs.lemmas.List.Elements.{All-nil, All-push, All-append}
use Rattle.rd_edits.specs.declared.edit.Edit.TheVariants.{Remove}
use Rattle.rd_scene.specs.Versions.{IsUnblended, NamesNoBlending, HasBox, HasEdit, HasCommand}
use Rattle.rd_scene.specs.declared.script.SceneBox.{SceneBox}
use Rattle.rd_scene.specs.declared.script.Command.TheVariants.{Change, Paint}
use Rattle.rd_gen.specs.Draws.{below, give, ◌>>=◌}
use Rattle.rd_gen.specs.Names.{box_id}
use Rattle.rd_gen.specs.Boxes.{root, parent_by, style_by, style, box_below, box, boxes}
use Rattle.rd_gen.specs.Commands.{background_change, z_change, opacity_change, visibility_change, restyled, placed, shifted, moved, inserted, removed_or_not, edit_by, edit, paint_after, commands}
use Rattle.rd_gen.proofs.Fitting.{either}

-- ---- boxes

style_by_unblended : (k s : ℕ) → IsUnblended (style_by k s).0
unfolding style_by
style_by_unblended k s =
    either IsUnblended (nat_lt k 6) _ _ s (record { blend = refl; isolation = refl })
    (either IsUnblended (k == 6) _ _ s (record { blend = refl; isolation = refl })
    (either IsUnblended (k == 7) _ _ s (record { blend = refl; isolation = refl })
    (either IsUnblended (k == 8) _ _ s (record { blend = refl; isolation = refl })
    (either IsUnblended (k == 9) _ _ s (record { blend = refl; isolation = refl })
    (either IsUnblended (k == 10) _ _ s (record { blend = refl; isolation = refl })
    (either IsUnblended (k == 11) _ _ s (record { blend = refl; isolation = refl })
    (either IsUnblended (k == 12) _ _ s (record { blend = refl; isolation = refl })
    (either IsUnblended (k == 13) _ _ s (record { blend = refl; isolation = refl })
    (either IsUnblended (k == 14) _ _ s (record { blend = refl; isolation = refl })
    (record { blend = refl; isolation = refl }))))))))))

style_unblended : (s : ℕ) → IsUnblended (style s).0
unfolding style
style_unblended s = let h = style_by_unblended _ _ in record { blend = h.blend; isolation = h.isolation }

box_below_unblended : (i parent s : ℕ) → HasBox 1 (box_below i parent s).0
unfolding box_below
box_below_unblended i parent s = λ _. style_unblended _

box_unblended : (i : ℕ) (before : List SceneBox) (s : ℕ) → HasBox 1 (box i before s).0
unfolding box
box_unblended i before s =
    either (HasBox 1) (i == 0) (give root) (below i >>= λ p. box_below i (parent_by before p)) s
    (λ _. record { blend = refl; isolation = refl }) (box_below_unblended _ _ _)

pub boxes_unblended : (n s : ℕ) → All (HasBox 1) (boxes n s).0
unfolding boxes
boxes_unblended zero s = All-nil (HasBox 1)
boxes_unblended (suc i) s =
    All-push (HasBox 1) (boxes i s).0 _ (boxes_unblended i s) (box_unblended i (boxes i s).0 (boxes i s).1)

-- ---- commands

background_unblended : (s : ℕ) → NamesNoBlending (background_change s).0
unfolding background_change
background_unblended s = record { blend = refl; isolation = refl }

z_unblended : (s : ℕ) → NamesNoBlending (z_change s).0
unfolding z_change
z_unblended s = record { blend = refl; isolation = refl }

opacity_unblended : (s : ℕ) → NamesNoBlending (opacity_change s).0
unfolding opacity_change
opacity_unblended s = record { blend = refl; isolation = refl }

visibility_unblended : (s : ℕ) → NamesNoBlending (visibility_change s).0
unfolding visibility_change
visibility_unblended s = record { blend = refl; isolation = refl }

placed_unblended : (t s : ℕ) → HasEdit 1 (placed t s).0
unfolding placed
placed_unblended t s = tt

shifted_unblended : (t s : ℕ) → HasEdit 1 (shifted t s).0
unfolding shifted
shifted_unblended t s = tt

moved_unblended : (boxes t s : ℕ) → HasEdit 1 (moved boxes t s).0
unfolding moved
moved_unblended boxes t s = tt

inserted_unblended : (j t s : ℕ) → HasEdit 1 (inserted j t s).0
unfolding inserted
inserted_unblended j t s = λ _. record { blend = refl; isolation = refl }

removed_or_not_unblended : (t s : ℕ) → HasEdit 1 (removed_or_not t s).0
unfolding removed_or_not
removed_or_not_unblended t s =
    either (HasEdit 1) ((below 8 s).0 == 0) (give (Remove (box_id t))) (restyled t visibility_change) (below 8 s).1
    tt (λ _. visibility_unblended _)

edit_by_unblended : (boxes j t kind s : ℕ) → HasEdit 1 (edit_by boxes j t kind s).0
unfolding edit_by
edit_by_unblended boxes j t kind s =
    either (HasEdit 1) (kind == 0) _ _ s (λ _. background_unblended s)
    (either (HasEdit 1) (kind == 1) _ _ s (placed_unblended t s)
    (either (HasEdit 1) (kind == 2) _ _ s (shifted_unblended t s)
    (either (HasEdit 1) (kind == 3) _ _ s (moved_unblended boxes t s)
    (either (HasEdit 1) (kind == 4) _ _ s (λ _. z_unblended s)
    (either (HasEdit 1) (kind == 5) _ _ s (λ _. opacity_unblended s)
    (either (HasEdit 1) (kind == 6) _ _ s (inserted_unblended j t s) (removed_or_not_unblended t s)))))))

edit_unblended : (boxes j s : ℕ) → HasEdit 1 (edit boxes j s).0
unfolding edit
edit_unblended boxes j s = edit_by_unblended boxes j _ _ _

paint_after_unblended : (j : ℕ) → All (HasCommand 1) (paint_after j)
paint_after_unblended j = by (j % 10 == 9)
  where
    by : (b : Bool) → All (HasCommand 1) (if b then Paint ∷ [] else [])
    by true = All-push (HasCommand 1) [] Paint (All-nil (HasCommand 1)) tt
    by false = All-nil (HasCommand 1)

pub commands_unblended : (boxes j s : ℕ) → All (HasCommand 1) (commands boxes j s).0
unfolding commands
commands_unblended boxes zero s = All-push (HasCommand 1) [] Paint (All-nil (HasCommand 1)) tt
commands_unblended boxes (suc j) s =
    let before = (commands boxes j s).0 in
    let e = (edit boxes j (commands boxes j s).1).0 in
    All-append (HasCommand 1) before (Change e ∷ paint_after j) (commands_unblended boxes j s)
    (All-append (HasCommand 1) (Change e ∷ []) (paint_after j)
    (All-push (HasCommand 1) [] (Change e) (All-nil (HasCommand 1)) (edit_unblended boxes j _))
    (paint_after_unblended j))
