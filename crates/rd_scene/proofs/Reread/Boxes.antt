-- Boxes are read as they are written.
use Rattle.std.proofs.Common.{◌≡◌, ℕ, ◌+◌, nat_lt, true, false, ◌&&◌, if◌then◌else◌, List, [], ◌∷◌, map, Option, Some, None, is_none, refl, ap, ◌∙◌, Ok, Err}
use Rattle.std.specs.Prelude.{All}
use Rattle.std.proofs.lemmas.List.Elements.{All-head, All-tail}
use Rattle.serde_json.specs.View.{items_of}
use Rattle.rd_tree.specs.Figures.{max_depth}
use Rattle.rd_scene.specs.declared.fault.Why.{Why}
use Rattle.rd_scene.specs.declared.fault.Why.TheVariants as why
use Rattle.rd_scene.specs.declared.fault.Place.TheVariants as place
use Rattle.rd_scene.specs.declared.script.SceneBox.{SceneBox}
use Rattle.rd_scene.specs.declared.version.Version.{Version}
use Rattle.rd_scene.specs.Boxes.{an_id, new_id, name_of, depth_under, box_of, with_box, next_box, boxes_from}
use Rattle.rd_scene.specs.Canonical.{IsId, IsIdOrNone, IsBox}
use Rattle.rd_scene.specs.Checked.{Checked, rule, good, value, ◌>>=◌}
use Rattle.rd_scene.specs.Members.{there, holds}
use Rattle.rd_scene.specs.Order.{depth_of, is_first, has_level_below, has_place, are_in_order}
use Rattle.rd_scene.specs.Places.{at}
use Rattle.rd_scene.specs.Scripts.{FitsBox}
use Rattle.rd_scene.specs.Versions.{number_of, HasBox}
use Rattle.rd_scene.specs.Writing.{id_value, box_value}
use Rattle.rd_scene.proofs.Reread.Members.{left_true, right_true}
use Rattle.rd_scene.proofs.Reread.Values.{start, ◌⊗◌, names_read, next_read, rect_read}
use Rattle.rd_scene.proofs.Reread.Styles.{style_read}

false_is : {X : Type 0} → false ≡ true → X
false_is h = absurd (let no : false ≡ true = h in cc)

pub id_read : (w : Why) (id : List ℕ) → IsId id → an_id w id ≡ good id
id_read w id h = ap (λ b. rule (if b then Ok id else Err w)) h

new_id_read : (depths : List ℕ → Option ℕ) (id : List ℕ) → IsId id → is_none (depths id) ≡ true
    → new_id depths id ≡ good id
unfolding new_id
new_id_read depths id h fresh =
    next_read (an_id why.Range id) (λ i. holds why.Duplicate (is_none (depths i)) >>= λ _. good i) id id
    (id_read why.Range id h)
    (ap (λ b. holds why.Duplicate b >>= λ _. good id) fresh)

-- the name of a parent that has a level below it
under_read : (o : Option ℕ) (p : Option (List ℕ)) → has_level_below o ≡ true
    → ((there why.Parent o >>= λ above. (holds why.Depth (nat_lt above max_depth) >>= λ _. good (above + 1))) >>=
    λ _. good p) ≡ good p
under_read None p h = false_is h
under_read (Some depth) p h = ap (λ b. (holds why.Depth b >>= λ _. good (depth + 1)) >>= λ _. good p) h

parent_read : (before : List SceneBox) (p : Option (List ℕ)) → IsIdOrNone p → has_place before p ≡ true
    → (name_of (id_value p) >>= λ q. (depth_under (is_first before) (λ id. depth_of id before) q >>= λ _. good q))
    ≡ good p
unfolding depth_under
parent_read [] None t h = refl
parent_read [] (Some p) t h = false_is h
parent_read (b ∷ before) None t h = false_is h
parent_read (b ∷ before) (Some p) t h =
    next_read (name_of (id_value (Some p)))
    (λ q. depth_under false (λ id. depth_of id (b ∷ before)) q >>= λ _. good q) (Some p) (Some p)
    (next_read (an_id why.Parent p) (λ id. good (Some id)) p (Some p) (id_read why.Parent p t) refl)
    (under_read (depth_of p (b ∷ before)) (Some p) h)

box_read : (version : Version) (before : List SceneBox) (b : SceneBox) → IsBox b → FitsBox b → HasBox (number_of version) b
    → is_none (depth_of b.id before) ≡ true → has_place before b.parent ≡ true
    → next_box version before (box_value b) ≡ good b
unfolding box_of box_value
box_read version before b t f v fresh stands =
    names_read (λ _ id parent rect style. record { id = id; parent = parent; rect = rect; style = style })
    ⊗ new_id_read (λ id. depth_of id before) b.id t.id fresh
    ⊗ parent_read before b.parent t.parent stands
    ⊗ rect_read b.rect f.rect
    ⊗ style_read version b.style t.style f.style v

pub boxes_read : (version : Version) (i : ℕ) (before bs : List SceneBox) → All IsBox bs → All FitsBox bs
    → All (HasBox (number_of version)) bs → are_in_order before bs ≡ true
    → boxes_from version i before (items_of (map box_value bs)) ≡ good bs
unfolding boxes_from
boxes_read version i before [] t f v h = refl
boxes_read version i before (b ∷ bs) t f v h =
    let first = is_none (depth_of b.id before) && has_place before b.parent in
    let placed : first ≡ true = left_true _ (are_in_order (b ∷ before) bs) h in
    let fresh : is_none (depth_of b.id before) ≡ true = left_true _ (has_place before b.parent) placed in
    let stands : has_place before b.parent ≡ true = right_true (is_none (depth_of b.id before)) _ placed in
    let here : next_box version before (box_value b) ≡ good b =
    box_read version before b (All-head IsBox b bs t) (All-head FitsBox b bs f) (All-head (HasBox (number_of version)) b bs v)
    fresh stands in
    let step = λ (r : Checked Why SceneBox). boxes_from version (i + 1) (with_box (value r) before)
    (items_of (map box_value bs)) in
    start ◌∷◌ ⊗ ap (at (place.Box i)) here
    ⊗ (ap step here ∙ boxes_read version (i + 1) (b ∷ before) bs (All-tail IsBox b bs t) (All-tail FitsBox b bs f)
    (All-tail (HasBox (number_of version)) b bs v) (right_true first _ h))
