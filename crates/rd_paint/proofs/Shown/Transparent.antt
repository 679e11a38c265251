-- What is transparent shows nothing: leaves of no opacity, and groups of none.
use Rattle.std.proofs.Common.{◌≡◌, ℕ, zero, suc, ◌==◌, ℤ, Bool, true, false, IsTrue, cond, refl, sym, ap, ◌∙◌, rules}
use Rattle.rd_geom.specs.Blends.{blended}
use Rattle.rd_geom.specs.Colors.{Premultiplied, premultiplied, laid_over, scaled, clear, times}
use Rattle.rd_geom.specs.declared.color.Color.{Color}
use Rattle.rd_geom.proofs.Mixing.{clear_blended, clear_over, scaled_none}
use Rattle.rd_geom.proofs.Products.{times_by_none}
use Rattle.rd_item.specs.declared.leaf.Leaf as item
use Rattle.rd_item.specs.Leaves.{covers}
use Rattle.rd_list.specs.Entries.{Entries, nil, leaf, group}
use Rattle.rd_list.specs.Lists.{composed}
use Rattle.rd_list.specs.Wrappers.{Wrapper}
use Rattle.rd_paint.specs.Internal.Picks.{SameWhere}

abbrev px : ℕ → ℕ → ℕ → ℕ → Premultiplied
px r g b a = record { r = r; g = g; b = b; a = a }

-- three products with nothing
none_of : (r g b : ℕ) → px (times r 0) (times g 0) (times b 0) 0 ≡ clear
none_of r g b = ap (λ n. px n (times g 0) (times b 0) 0) (times_by_none r) ∙ ap (λ n. px 0 n (times b 0) 0) (times_by_none g) ∙ ap (λ n. px 0 0 n 0) (times_by_none b)

-- the pixel of a colour of no opacity
premultiplied_none : (c : Color) → c.a ≡ 0 → premultiplied c ≡ clear
premultiplied_none c e = ap (λ k. px (times c.r k) (times c.g k) (times c.b k) k) e ∙ none_of c.r c.g c.b

clear_laid : (t : Bool) (q d : Premultiplied) → q ≡ clear → cond t (laid_over q d) d ≡ d
clear_laid true q d e = ap (λ z. laid_over z d) e ∙ clear_over d
clear_laid false q d e = refl

none_if : (n : ℕ) → IsTrue (n == 0) → n ≡ 0
none_if zero t = refl
none_if (suc n) t = absurd (let some : (suc n == 0) ≡ false = search rules in let no : false ≡ true = sym some ∙ t in cc)

module _ (p : ℤ → ℤ → Type 0) where
  -- a leaf of no opacity shows nothing
  pub leaf_clear : (l : item.Leaf) (c : Color) → c ≡ l.color → c.a ≡ 0 → SameWhere p nil (leaf l nil)
  leaf_clear l c e z x y d h = sym (clear_laid (covers l x y) (premultiplied l.color) d (ap premultiplied (sym e) ∙ premultiplied_none c z))

  -- a group of no opacity shows nothing
  pub group_clear : (w : Wrapper) (inner : Entries Wrapper item.Leaf) → IsTrue (w.opacity == 0) → SameWhere p nil (group w inner nil)
  group_clear w inner e x y d h = sym (ap (λ q. blended w.blend q d) (ap (scaled (composed x y clear inner)) (none_if w.opacity e) ∙ scaled_none (composed x y clear inner)) ∙ clear_blended w.blend d)
