use Rattle.std.proofs.Common.{◌≡◌, ◌≢◌, Err, ℕ, List, [], ◌∷◌, length, refl, ap, arith, String, Global, string_bytes, bytes_eq, ◌&&◌}
use Rattle.std.specs.List.{list_all, list_any}
use Rattle.std.specs.Map.{keys_of}
use Rattle.serde_json.specs.View.{items_view, members_view}
use Rattle.serde_json.specs.declared.value.Value.{Value}
use Rattle.rd_scene.specs.Members.{count, are_known}
use Rattle.rd_scene.specs.declared.fault.Why.TheVariants as why
use Rattle.rd_scene.specs.Checked.{rule}
use Rattle.rd_scene.specs.Rects.{four_of}

pub count_items : (vs : List Value) → count (items_view vs) ≡ length vs
count_items [] = refl
count_items (v ∷ vs) = omega (arith, count_items vs)

pub only_keys : (names : List (List ℕ)) (es : List (String Global × Value))
    → list_all (λ (k : String Global). list_any (bytes_eq (string_bytes k)) names) (keys_of es) ≡ are_known names (members_view es)
only_keys names [] = refl
only_keys names (e ∷ es) = ap (λ b. list_any (bytes_eq (string_bytes e.0)) names && b) (only_keys names es)

-- an array of another length is not of four
pub not_four : (vs : List Value) → length vs ≢ 4 → four_of (items_view vs) ≡ rule (Err why.Kind)
not_four [] h = refl
not_four (a ∷ []) h = refl
not_four (a ∷ b ∷ []) h = refl
not_four (a ∷ b ∷ c ∷ []) h = refl
not_four (a ∷ b ∷ c ∷ d ∷ []) h = absurd (h refl)
not_four (a ∷ b ∷ c ∷ d ∷ e ∷ vs) h = refl

pub ruleset items = (count_items, only_keys)
