-- The commands that are drawn are within the limits.
use Rattle.std.proofs.Common.{ℕ, zero, suc, ◌+◌, ◌*◌, ◌%◌, ◌≤◌, ◌==◌, Bool, true, false, if◌then◌else◌, [], ◌∷◌, length, All, refl, arith, length-append}
use Rattle.std.proofs.lemmas.List.Elements.{All-nil, All-push, All-append}
use Rattle.rd_style.specs.Limits.{fits, Fits}
use Rattle.rd_style.specs.Changes.{plain, changed}
use Rattle.rd_scene.specs.Edits.{FitsEdit}
use Rattle.rd_scene.specs.Commands.{FitsCommand}
use Rattle.rd_scene.specs.declared.script.Command.TheVariants.{Change, Paint}
use Rattle.rd_edits.specs.declared.edit.Edit.TheVariants.{Remove}
use Rattle.rd_gen.specs.Draws.{below, give}
use Rattle.rd_gen.specs.Names.{box_id}
use Rattle.rd_gen.specs.Commands.{background_change, z_change, opacity_change, visibility_change, restyled, placed, shifted, moved, inserted, removed_or_not, edit_by, edit, paint_after, commands}
use Rattle.rd_gen.proofs.Fitting.{between_less, rectangle_fits, recoloured, either, plain_fits, is_true_between}

background_fits : (s : ℕ) → Fits (changed plain (background_change s).0)
unfolding background_change fits
background_fits s = refl

z_fits : (s : ℕ) → Fits (changed plain (z_change s).0)
unfolding z_change fits
z_fits s = refl

opacity_fits : (s : ℕ) → Fits (changed plain (opacity_change s).0)
unfolding opacity_change fits
opacity_fits s = refl

visibility_fits : (s : ℕ) → Fits (changed plain (visibility_change s).0)
unfolding visibility_change fits
visibility_fits s = refl

placed_fits : (t s : ℕ) → FitsEdit (placed t s).0
unfolding placed
placed_fits t s = rectangle_fits s

shifted_fits : (t s : ℕ) → FitsEdit (shifted t s).0
unfolding shifted
shifted_fits t s = (is_true_between _ (between_less 33 16 _ (omega arith) (omega arith) (omega arith)), is_true_between _ (between_less 33 16 _ (omega arith) (omega arith) (omega arith)))

moved_fits : (boxes t s : ℕ) → FitsEdit (moved boxes t s).0
unfolding moved
moved_fits boxes t s = tt

inserted_fits : (j t s : ℕ) → FitsEdit (inserted j t s).0
unfolding inserted
inserted_fits j t s = (rectangle_fits s, recoloured plain _ plain_fits)

removed_or_not_fits : (t s : ℕ) → FitsEdit (removed_or_not t s).0
unfolding removed_or_not
removed_or_not_fits t s = either FitsEdit ((below 8 s).0 == 0) (give (Remove (box_id t))) (restyled t visibility_change) (below 8 s).1 tt (visibility_fits _)

edit_by_fits : (boxes j t kind s : ℕ) → FitsEdit (edit_by boxes j t kind s).0
unfolding edit_by
edit_by_fits boxes j t kind s =
    either FitsEdit (kind == 0) _ _ s (background_fits s) (either FitsEdit (kind == 1) _ _ s (placed_fits t s)
    (either FitsEdit (kind == 2) _ _ s (shifted_fits t s) (either FitsEdit (kind == 3) _ _ s (moved_fits boxes t s)
    (either FitsEdit (kind == 4) _ _ s (z_fits s) (either FitsEdit (kind == 5) _ _ s (opacity_fits s)
    (either FitsEdit (kind == 6) _ _ s (inserted_fits j t s) (removed_or_not_fits t s)))))))

edit_fits : (boxes j s : ℕ) → FitsEdit (edit boxes j s).0
unfolding edit
edit_fits boxes j s = edit_by_fits boxes j _ _ _

paint_after_fits : (j : ℕ) → All FitsCommand (paint_after j)
paint_after_fits j = by (j % 10 == 9)
  where
    by : (b : Bool) → All FitsCommand (if b then Paint ∷ [] else [])
    by true = All-push FitsCommand [] Paint (All-nil FitsCommand) tt
    by false = All-nil FitsCommand

pub commands_fit : (boxes j s : ℕ) → All FitsCommand (commands boxes j s).0
unfolding commands
commands_fit boxes zero s = All-push FitsCommand [] Paint (All-nil FitsCommand) tt
commands_fit boxes (suc j) s =
    let before = (commands boxes j s).0 in
    let e = (edit boxes j (commands boxes j s).1).0 in
    All-append FitsCommand before (Change e ∷ paint_after j) (commands_fit boxes j s)
    (All-append FitsCommand (Change e ∷ []) (paint_after j) (All-push FitsCommand [] (Change e) (All-nil FitsCommand) (edit_fits boxes j _)) (paint_after_fits j))

paint_after_few : (j : ℕ) → length (paint_after j) ≤ 1
paint_after_few j = by (j % 10 == 9)
  where
    by : (b : Bool) → length (if b then Paint ∷ [] else []) ≤ 1
    by true = omega arith
    by false = omega arith

-- at most one paint for each edit
pub commands_few : (boxes j s : ℕ) → length (commands boxes j s).0 ≤ 1 + 2 * j
unfolding commands
commands_few boxes zero s = omega arith
commands_few boxes (suc j) s =
    let before = (commands boxes j s).0 in
    let e = (edit boxes j (commands boxes j s).1).0 in
    omega (arith, length-append before (Change e ∷ paint_after j), commands_few boxes j s, paint_after_few j)
