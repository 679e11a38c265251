-- The depths of boxes by their numbers.
use Rattle.std.proofs.Common.{◌≡◌, ℕ, ◌<◌, ◌^◌, Bool, true, false, if◌then◌else◌, List, [], ◌∷◌, ◌++◌, reverse, Some, bytes_eq, refl, sym, ap, ◌∙◌}
use Rattle.std.proofs.lemmas.List.{reverse-append}
use Rattle.std.proofs.lemmas.Slice.Eq.{bytes_eq-Decides}
use Rattle.rd_scene.specs.declared.script.SceneBox.{SceneBox}
use Rattle.rd_scene.specs.Order.{depth_of, depth_below}
use Rattle.rd_gen.specs.Names.{box_id}
use Rattle.rd_gen.proofs.Naming.{box_id_apart}

pub not_true : (b : Bool) → (b ≡ true → ⊥) → b ≡ false
not_true true h = absurd (h refl)
not_true false h = refl

pub same_text : (w : List ℕ) → bytes_eq w w ≡ true
same_text w = (bytes_eq-Decides w w).1 refl

pub other_text : (v w : List ℕ) → (v ≡ w → ⊥) → bytes_eq v w ≡ false
other_text v w h = not_true _ (λ e. h ((bytes_eq-Decides v w).0 e))

-- with one box more
pub depth_of_more : (id : List ℕ) (xs : List SceneBox) (b : SceneBox)
    → depth_of id (reverse (xs ++ b ∷ [])) ≡ (if bytes_eq b.id id then Some (depth_below (reverse xs) b.parent) else depth_of id (reverse xs))
depth_of_more id xs b = rw (reverse-append xs (b ∷ [])) refl

-- the new box's own
pub depth_of_new : (id : List ℕ) (xs : List SceneBox) (b : SceneBox) → b.id ≡ id → depth_of id (reverse (xs ++ b ∷ [])) ≡ Some (depth_below (reverse xs) b.parent)
depth_of_new id xs b same =
    let yes : bytes_eq b.id id ≡ true = ap (λ w. bytes_eq w id) same ∙ same_text id in
    depth_of_more id xs b ∙ rw yes refl

-- another's
pub depth_of_other : (i k : ℕ) (xs : List SceneBox) (b : SceneBox) → i < 2 ^ 32 → k < 2 ^ 32 → (i ≡ k → ⊥) → b.id ≡ box_id i
    → depth_of (box_id k) (reverse (xs ++ b ∷ [])) ≡ depth_of (box_id k) (reverse xs)
depth_of_other i k xs b hi hk apart is =
    let no : bytes_eq b.id (box_id k) ≡ false = other_text _ _ (λ e. apart (box_id_apart i k hi hk (sym is ∙ e))) in
    depth_of_more (box_id k) xs b ∙ rw no refl
