-- Leaves that do not cover a pixel leave it as it is.
use Rattle.std.proofs.Common.{◌≡◌, refl, ap, ◌∙◌, sym, Bool, true, false, ◌&&◌, not, cond, ℤ, IsTrue}
use Rattle.rd_geom.specs.Blends.{blended}
use Rattle.rd_geom.specs.Colors.{Premultiplied, premultiplied, laid_over, scaled, clear}
use Rattle.rd_geom.specs.Plane.{holds_pixel}
use Rattle.rd_geom.proofs.Mixing.{nothing_blended}
use Rattle.rd_geom.proofs.Pixels.{shares_meets}
use Rattle.rd_item.specs.declared.leaf.Leaf.{Leaf}
use Rattle.rd_item.specs.Leaves.{covers}
use Rattle.rd_list.specs.Wrappers.{Wrapper}
use Rattle.rd_list.specs.Entries.{Entries, nil, leaf, group, only, grouped_if_any}
use Rattle.rd_list.specs.Lists.{composed, leaves_meet}

module _ (x y : ℤ) where
  abbrev pub at : Leaf → Bool
  at l = covers l x y

  pub composed-only : (d : Premultiplied) (xs : Entries Wrapper Leaf) → composed x y d xs ≡ composed x y d (only at xs)
  composed-only d nil = refl
  composed-only d (leaf l rest) = by (covers l x y) refl (λ d. composed-only d rest)
    where
      by : (b : Bool) → covers l x y ≡ b → ((d : Premultiplied) → composed x y d rest ≡ composed x y d (only at rest))
          → composed x y (cond b (laid_over (premultiplied l.color) d) d) rest ≡ composed x y d (cond b (leaf l (only at rest)) (only at rest))
      by true e h = h (laid_over (premultiplied l.color) d) ∙ ap (λ b. composed x y (cond b (laid_over (premultiplied l.color) d) d) (only at rest)) (sym e)
      by false e h = h d
  composed-only d (group g inner rest) = by (only at inner) (composed-only clear inner) (λ d. composed-only d rest)
    where
      by : (i : Entries Wrapper Leaf) → composed x y clear inner ≡ composed x y clear i → ((d : Premultiplied) → composed x y d rest ≡ composed x y d (only at rest))
          → composed x y (blended g.blend (scaled (composed x y clear inner) g.opacity) d) rest ≡ composed x y d (grouped_if_any g i (only at rest))
      by nil e h = ap (λ c. composed x y (blended g.blend (scaled c g.opacity) d) rest) e ∙ (ap (λ c. composed x y c rest) (nothing_blended g.blend g.opacity d) ∙ h d)
      by (leaf l i) e h = ap (λ c. composed x y (blended g.blend (scaled c g.opacity) d) rest) e ∙ h _
      by (group g' i' i) e h = ap (λ c. composed x y (blended g.blend (scaled c g.opacity) d) rest) e ∙ h _

  last_and : (a b : Bool) → (a && b) ≡ true → b ≡ true
  last_and true b h = h
  last_and false b h = cc

  -- two leaves that cover one pixel meet
  pub both_meet : (a b : Leaf) → covers a x y ≡ true → covers b x y ≡ true → IsTrue (leaves_meet a b)
  both_meet a b s t =
      shares_meets a.visible b.visible (record {
        x = x;
        y = y;
        first = last_and (holds_pixel a.shape.outer x y && not (holds_pixel a.shape.inner x y)) (holds_pixel a.visible x y) s;
        second = last_and (holds_pixel b.shape.outer x y && not (holds_pixel b.shape.inner x y)) (holds_pixel b.visible x y) t;
      })
