-- A script is read as it is written.
use Rattle.std.proofs.Common.{◌≡◌, ◌≤◌, ℕ, zero, suc, nat_le, true, ◌&&◌, List, [], ◌∷◌, map, length, Result, Ok, Err, refl, ap, sym, subst, ◌∙◌, arith}
use Rattle.std.specs.Prelude.{⊤, All, IfOk, ℤ, pos, ◌≤ℤ◌}
use Rattle.std.proofs.lemmas.Bool.Decides.{nat_tests}
use Rattle.std.proofs.lemmas.Int.{ints}
use Rattle.serde_json.specs.Data.{Data, number, unsigned}
use Rattle.serde_json.specs.View.{items_of}
use Rattle.rd_geom.specs.Canvas.{IsCanvas}
use Rattle.rd_geom.specs.declared.rect.Size.{Size}
use Rattle.rd_geom.specs.Figures.{max_canvas_side}
use Rattle.rd_tree.specs.Figures.{max_boxes}
use Rattle.rd_scene.specs.declared.fault.Why.TheVariants as why
use Rattle.rd_scene.specs.declared.fault.Place.TheVariants as place
use Rattle.rd_scene.specs.declared.script.SceneBox.{SceneBox}
use Rattle.rd_scene.specs.declared.script.Command.{Command}
use Rattle.rd_scene.specs.declared.version.Version.{Version}
use Rattle.rd_scene.specs.declared.version.Version.TheVariants.{One, Two}
use Rattle.rd_scene.specs.Figures.{max_commands}
use Rattle.rd_scene.specs.Canonical.{HasItsTypes, CanonicalLaw}
use Rattle.rd_scene.specs.Checked.{faults, value, good, ◌>>=◌}
use Rattle.rd_scene.specs.Members.{holds, counted, count, whole_number, number as number_from}
use Rattle.rd_scene.specs.Places.{at}
use Rattle.rd_scene.specs.Reading.{Reads, IsScriptText}
use Rattle.rd_scene.specs.Rects.{canvas_of}
use Rattle.rd_scene.specs.Scripts.{Script, IsScript, numbered, version_at, canvas_at, boxes_at, commands_at, IsOfVersion, script_at, reading_of}
use Rattle.rd_scene.specs.Versions.{number_of, HasBox, HasCommand}
use Rattle.rd_scene.specs.Writing.{number_value, box_value, command_value, canvas_value, scene_value}
use Rattle.rd_scene.proofs.Reread.Values.{start, ◌⊗◌, names_read, next_read, number_read}
use Rattle.rd_scene.proofs.Reread.Boxes.{boxes_read}
use Rattle.rd_scene.proofs.Reread.Commands.{commands_read}

count_read : {X : Type 0} (f : X → Data) (xs : List X) → count (items_of (map f xs)) ≡ length xs
count_read f [] = refl
count_read f (x ∷ xs) = let more : count (items_of (map f xs)) ≡ length xs = count_read f xs in omega arith

few : (low high n : ℕ) → low ≤ n → n ≤ high → (nat_le low n && nat_le n high) ≡ true
few low high n p q = grind (arith, nat_tests)

counted_read : {X : Type 0} (f : X → Data) (low high : ℕ) (xs : List X) → low ≤ length xs → length xs ≤ high
    → counted low high (count (items_of (map f xs))) ≡ good tt
counted_read f low high xs p q = ap (counted low high) (count_read f xs)
    ∙ ap (holds why.Count) (few low high (length xs) p q)

side_read : (z : ℤ) → pos 1 ≤ℤ z → z ≤ℤ max_canvas_side → number_from (pos 1) max_canvas_side (number_value z) ≡ good z
side_read z p q = number_read (pos 1) max_canvas_side z (omega (arith, ints)) (grind (arith, ints, nat_tests))

canvas_read : (s : Size) → IsCanvas s → canvas_of (canvas_value s) ≡ good s
unfolding canvas_of
canvas_read s c =
    names_read (λ _ w h. record { w = w; h = h }) ⊗ side_read s.w c.some_wide c.wide ⊗ side_read s.h c.some_high c.high

boxes_at_read : (version : Version) (s : Script) → IsScript s → HasItsTypes s → All (HasBox (number_of version)) s.boxes
    → boxes_at version (scene_value s) ≡ good s.boxes
unfolding scene_value
boxes_at_read version s i t v =
    start (λ (_ : ⊤) (boxes : List SceneBox). boxes)
    ⊗ ap (at place.Top) (counted_read box_value 1 max_boxes s.boxes i.some i.most)
    ⊗ boxes_read version 0 [] s.boxes t.boxes i.boxes v i.order

commands_at_read : (version : Version) (s : Script) → IsScript s → HasItsTypes s → All (HasCommand (number_of version)) s.commands
    → commands_at version (scene_value s) ≡ good s.commands
unfolding scene_value
commands_at_read version s i t v =
    start (λ (_ : ⊤) (commands : List Command). commands)
    ⊗ ap (at place.Top) (counted_read command_value 0 max_commands s.commands (omega arith) i.few)
    ⊗ commands_read version 0 s.commands t.commands i.commands v

canvas_at_read : (s : Script) → IsScript s → canvas_at (scene_value s) ≡ good s.canvas
unfolding scene_value
canvas_at_read s i = ap (at place.Canvas) (canvas_read s.canvas i.canvas)

-- the number of a version is read as that version
version_read : (version : Version)
    → (number_from (pos 1) (pos 2) (number (unsigned (number_of version))) >>= λ z. good (numbered z)) ≡ good version
unfolding whole_number
version_read One = refl
version_read Two = refl

version_at_read : (version : Version) (s : Script) → s.version ≡ number_of version
    → version_at (scene_value s) ≡ good version
unfolding scene_value
version_at_read version s e = rw e (ap (at place.Top) (version_read version))

script_at_read : (version : Version) (s : Script) → IsScript s → HasItsTypes s → s.version ≡ number_of version
    → script_at version (scene_value s) ≡ good s
unfolding script_at IsOfVersion
script_at_read version s i t e =
    let b = subst (λ (n : ℕ). All (HasBox n) s.boxes) e i.version.2 in
    let c = subst (λ (n : ℕ). All (HasCommand n) s.commands) e i.version.3 in
    (start (λ canvas boxes commands.
    record { version = number_of version; canvas = canvas; boxes = boxes; commands = commands })
    ⊗ canvas_at_read s i ⊗ boxes_at_read version s i t b ⊗ commands_at_read version s i t c)
    ∙ ap (λ (n : ℕ). good (record s { version = n })) (sym e)

-- a number from 1 to 2 is that of a version
of_number : (n : ℕ) → 1 ≤ n → n ≤ 2 → (version : Version) × (n ≡ number_of version)
of_number zero first last = absurd (omega arith)
of_number (suc zero) first last = (One, refl)
of_number (suc (suc zero)) first last = (Two, refl)
of_number (suc (suc (suc n))) first last = absurd (omega arith)

pub script_read : CanonicalLaw
unfolding reading_of scene_value IsOfVersion
script_read s i t =
    let (v, e) = of_number s.version i.version.0 i.version.1 in
    names_read (λ _ script. script)
    ⊗ next_read (version_at (scene_value s)) (λ version. script_at version (scene_value s)) v s
    (version_at_read v s e) (script_at_read v s i t e)

-- a text with that value is a text of the script
text_read : (bytes : List ℕ) (s : Script) → IsScript s → HasItsTypes s → Reads bytes (scene_value s)
    → IsScriptText bytes s
text_read bytes s i t r = (scene_value s, r, ap faults (script_read s i t), ap value (script_read s i t))

pub text_if_ok : {X E : Type 0} (bytes : X → List ℕ) (s : Script) (r : Result X E) → IsScript s → HasItsTypes s
    → IfOk r (λ x. Reads (bytes x) (scene_value s)) → IfOk r (λ x. IsScriptText (bytes x) s)
text_if_ok bytes s (Ok x) i t h = text_read (bytes x) s i t h
text_if_ok bytes s (Err e) i t h = tt
