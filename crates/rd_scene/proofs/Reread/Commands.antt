-- Commands are read as they are written.
use Rattle.std.proofs.Common.{◌≡◌, ℕ, ◌+◌, List, ◌∷◌, map, Option, Some, None, refl, ap, arith, []}
use Rattle.std.specs.Prelude.{ℤ, pos, ◌-ℤ◌, All, IsTrue}
use Rattle.std.proofs.lemmas.Int.{ints}
use Rattle.std.proofs.lemmas.List.Elements.{All-head, All-tail}
use Rattle.serde_json.specs.View.{items_of}
use Rattle.rd_style.specs.Figures.{max_coordinate}
use Rattle.rd_style.specs.Limits.{is_between}
use Rattle.rd_edits.specs.declared.edit.Edit.{Edit}
use Rattle.rd_edits.specs.declared.edit.Edit.TheVariants.{Insert, Remove, Move, SetStyle, SetRect, Shift, Scroll}
use Rattle.rd_scene.specs.declared.fault.Why.{Why}
use Rattle.rd_scene.specs.declared.fault.Why.TheVariants as why
use Rattle.rd_scene.specs.declared.fault.Place.TheVariants as place
use Rattle.rd_scene.specs.declared.script.Command.{Command}
use Rattle.rd_scene.specs.declared.version.Version.{Version}
use Rattle.rd_scene.specs.declared.version.Version.TheVariants.{One, Two}
use Rattle.rd_scene.specs.declared.script.Command.TheVariants.{Change, Paint, Hit, Pixel, Dump, Shot, Undo}
use Rattle.rd_scene.specs.Figures.{max_distance}
use Rattle.rd_scene.specs.Boxes.{an_id}
use Rattle.rd_scene.specs.Canonical.{IsIdOrNone, IsEdit, IsCommand}
use Rattle.rd_scene.specs.Checked.{Checked, good, ◌>>=◌}
use Rattle.rd_scene.specs.Commands.{pixel_at, at_pixel, undo_of, command_named, command_of, commands_from, FitsCommand}
use Rattle.rd_scene.specs.Edits.{id_or_null, insert_of, remove_of, move_of, set_style_of, set_rect_of, distance_at, shift_of, scroll_of, edit_named, FitsEdit}
use Rattle.rd_scene.specs.Members.{number as number_from}
use Rattle.rd_scene.specs.Places.{at}
use Rattle.rd_scene.specs.Versions.{number_of, HasEdit, HasCommand}
use Rattle.rd_scene.specs.Writing.{id_value, number_value, edit_value, command_value}
use Rattle.rd_scene.proofs.Reread.Values.{start, ◌⊗◌, names_read, next_read, number_read, rect_read}
use Rattle.rd_scene.proofs.Reread.Styles.{style_read, change_read, change_named}
use Rattle.rd_scene.proofs.Reread.Boxes.{id_read}

before_read : (before : Option (List ℕ)) → IsIdOrNone before → id_or_null (id_value before) ≡ good before
before_read None h = refl
before_read (Some id) h = next_read (an_id why.Range id) (λ w. good (Some w)) id (Some id) (id_read why.Range id h) refl

distance_read : (z : ℤ) → IsTrue (is_between (pos 0 -ℤ max_distance) z max_distance)
    → number_from (pos 0 -ℤ max_distance) max_distance (number_value z) ≡ good z
distance_read z h = number_read (pos 0 -ℤ max_distance) max_distance z (omega (arith, ints)) h

column_read : (z : ℤ) → IsTrue (is_between (pos 0 -ℤ max_coordinate) z max_coordinate)
    → number_from (pos 0 -ℤ max_coordinate) max_coordinate (number_value z) ≡ good z
column_read z h = number_read (pos 0 -ℤ max_coordinate) max_coordinate z (omega (arith, ints)) h

-- the edit that is read is the command that it is
as_command : (c : Checked Why Edit) (e : Edit) → c ≡ good e → (c >>= λ x. good (Change x)) ≡ good (Change e)
as_command c e h = next_read c (λ x. good (Change x)) e (Change e) h refl

edit_read : (version : Version) (e : Edit) → IsEdit e → FitsEdit e → HasEdit (number_of version) e
    → command_of version (edit_value e) ≡ good (Change e)
unfolding command_of command_named edit_named edit_value insert_of remove_of move_of set_style_of set_rect_of shift_of scroll_of distance_at
edit_read version (Insert id parent before rect style) t f v = as_command _ _
    (names_read (λ _ id parent before rect style. Insert id parent before rect style)
    ⊗ id_read why.Range id t.0 ⊗ id_read why.Range parent t.1 ⊗ before_read before t.2 ⊗ rect_read rect f.0
    ⊗ style_read version style t.3 f.1 v)
edit_read version (Remove id) t f v = as_command _ _ (names_read (λ _ id. Remove id) ⊗ id_read why.Range id t)
edit_read version (Move id parent before) t f v = as_command _ _
    (names_read (λ _ id parent before. Move id parent before)
    ⊗ id_read why.Range id t.0 ⊗ id_read why.Range parent t.1 ⊗ before_read before t.2)
edit_read version (SetStyle id change) t f v = as_command _ _
    (names_read (λ _ id change. SetStyle id change)
    ⊗ id_read why.Range id t.0 ⊗ change_read version change (change_named change t.1 f) v)
edit_read version (SetRect id rect) t f v = as_command _ _
    (names_read (λ _ id rect. SetRect id rect) ⊗ id_read why.Range id t ⊗ rect_read rect f)
edit_read version (Shift id dx dy) t f v = as_command _ _
    (names_read (λ _ id dx dy. Shift id dx dy)
    ⊗ id_read why.Range id t ⊗ distance_read dx f.0 ⊗ distance_read dy f.1)
edit_read One (Scroll id x y) t f v = absurd (v refl)
edit_read Two (Scroll id x y) t f v = as_command _ _
    (names_read (λ _ id x y. Scroll id x y)
    ⊗ id_read why.Range id t ⊗ distance_read x f.0 ⊗ distance_read y f.1)

command_read : (version : Version) (c : Command) → IsCommand c → FitsCommand c → HasCommand (number_of version) c
    → command_of version (command_value c) ≡ good c
unfolding command_of command_named at_pixel pixel_at undo_of
command_read version (Change e) t f v = edit_read version e t f v
command_read version Paint t f v = refl
command_read version (Hit x y) t f v = names_read (λ _ x y. Hit x y) ⊗ column_read x f.0 ⊗ column_read y f.1
command_read version (Pixel x y) t f v = names_read (λ _ x y. Pixel x y) ⊗ column_read x f.0 ⊗ column_read y f.1
command_read version Dump t f v = refl
command_read version Shot t f v = refl
command_read One Undo t f v = absurd (v refl)
command_read Two Undo t f v = refl

pub commands_read : (version : Version) (i : ℕ) (cs : List Command) → All IsCommand cs → All FitsCommand cs
    → All (HasCommand (number_of version)) cs → commands_from version i (items_of (map command_value cs)) ≡ good cs
unfolding commands_from
commands_read version i [] t f v = refl
commands_read version i (c ∷ cs) t f v =
    start ◌∷◌
    ⊗ ap (at (place.Command i)) (command_read version c (All-head IsCommand c cs t) (All-head FitsCommand c cs f)
    (All-head (HasCommand (number_of version)) c cs v))
    ⊗ commands_read version (i + 1) cs (All-tail IsCommand c cs t) (All-tail FitsCommand c cs f)
    (All-tail (HasCommand (number_of version)) c cs v)
