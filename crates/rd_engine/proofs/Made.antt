-- By which paints the leaves of a list were made that meet an area.
use Rattle.std.proofs.Common.{◌≡◌, ◌∙◌, sym, ℤ, ℕ, true, List, [], ◌∷◌, arith}
use Rattle.std.specs.Prelude.{Contains}
use Rattle.rd_geom.specs.Areas.{Region, in_area, meets_area}
use Rattle.rd_geom.proofs.Areas.{meets_area-same}
use Rattle.rd_item.specs.Items.{Made}
use Rattle.rd_paint.specs.Since.{AreMadeSince}
use Rattle.rd_engine.proofs.Stood.{first_in, later_in}

-- all that meet an area of the same pixels were made by one paint
pub made_since : (a b : Region) (n : ℕ) (ms : List Made) → ((x y : ℤ) → in_area a x y ≡ in_area b x y)
    → ((i : Made) → Contains ms i → meets_area b i.leaf.visible ≡ true → i.made_at ≡ n) → AreMadeSince a n ms
made_since a b n [] e h = tt
made_since a b n (m ∷ ms) e h = (
  (λ t. let k = h m (first_in m ms) (sym (meets_area-same a b m.leaf.visible e) ∙ t) in omega (arith, k)),
  made_since a b n ms e (λ i c t. h i (later_in m i ms c) t),
)
