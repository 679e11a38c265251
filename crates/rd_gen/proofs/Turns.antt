-- Draws in turn: one box and one edit more.
use Rattle.std.proofs.Common.{◌≡◌, ℕ, ◌+◌, ◌%◌, ◌≤◌, ◌==◌, false, List, [], ◌∷◌, ◌++◌, refl, arith, add-one, append_assoc}
use Rattle.std.proofs.lemmas.Bool.{ne_eqb}
use Rattle.rd_scene.specs.declared.script.SceneBox.{SceneBox}
use Rattle.rd_scene.specs.declared.script.Command.{Command}
use Rattle.rd_scene.specs.declared.script.Command.TheVariants.{Change, Paint}
use Rattle.rd_edits.specs.declared.edit.Edit.{Edit}
use Rattle.rd_gen.specs.Draws.{below}
use Rattle.rd_gen.specs.Boxes.{root, parent_by, box_below, box, boxes, canvas}
use Rattle.rd_gen.specs.Generated.{script}
use Rattle.rd_gen.specs.Commands.{edit, commands}

-- the first box
pub first_box : (s : ℕ) → boxes 1 s ≡ (root ∷ [], s)
unfolding boxes box
first_box s = refl

-- a box more
pub box_more : (i s : ℕ) (before : List SceneBox) (s1 p s2 parent : ℕ) (b : SceneBox) (t : ℕ) → 1 ≤ i
    → boxes i s ≡ (before, s1) → below i s1 ≡ (p, s2) → parent ≡ parent_by before p → box_below i parent s2 ≡ (b, t)
    → boxes (i + 1) s ≡ (before ++ b ∷ [], t)
unfolding boxes box
box_more i s before s1 p s2 parent b t some so_far draw under last =
    let not_zero : i ≡ 0 → ⊥ = λ e. omega (arith, e) in
    let later : (i == 0) ≡ false = ne_eqb i 0 not_zero in
    rw (add-one, so_far, later, draw, ← under, last) refl

-- an edit more, with a paint after it or none
pub edit_painted : (number j s : ℕ) (before after : List Command) (s1 : ℕ) (e : Edit) (t : ℕ)
    → commands number j s ≡ (before, s1) → edit number j s1 ≡ (e, t) → j % 10 ≡ 9
    → after ≡ (before ++ Change e ∷ []) ++ Paint ∷ [] → commands number (j + 1) s ≡ (after, t)
unfolding commands
edit_painted number j s before after s1 e t so_far last tenth is =
    rw (add-one, so_far, last, tenth, is, append_assoc) refl

pub edit_unpainted : (number j s : ℕ) (before after : List Command) (s1 : ℕ) (e : Edit) (t : ℕ)
    → commands number j s ≡ (before, s1) → edit number j s1 ≡ (e, t) → (j % 10 ≡ 9 → ⊥)
    → after ≡ before ++ Change e ∷ [] → commands number (j + 1) s ≡ (after, t)
unfolding commands
edit_unpainted number j s before after s1 e t so_far last other is =
    let no : (j % 10 == 9) ≡ false = ne_eqb (j % 10) 9 other in
    rw (add-one, so_far, last, no, is) refl

-- the script of these boxes and commands
pub script_of_parts : (number edits s : ℕ) (made : List SceneBox) (s1 : ℕ) (done all : List Command) (s2 : ℕ)
    → boxes number s ≡ (made, s1) → commands number edits s1 ≡ (done, s2) → all ≡ done ++ Paint ∷ []
    → record { version = 1; canvas = canvas; boxes = made; commands = all } ≡ (script number edits s).0
unfolding script
script_of_parts number edits s made s1 done all s2 first second is = rw (first, second, is) refl
