-- Entries that hide what is below them.
use Rattle.std.proofs.Common.{◌≡◌, refl, ◌∙◌, sym, ap, ℤ, pos, ℕ, ◌+ℤ◌, ◌<◌, ◌≤ℤ◌, ◌<ℤ◌, ◌≤◌, arith, Bool, true, false, ◌&&◌}
use Rattle.rd_geom.specs.Colors.{Premultiplied, premultiplied}
use Rattle.rd_geom.specs.Areas.{in_span}
use Rattle.rd_geom.specs.Plane.{IsWithin, holds_pixel, is_among, right}
use Rattle.rd_geom.specs.declared.span.Span.{Span}
use Rattle.rd_item.specs.declared.leaf.Leaf as item
use Rattle.rd_item.specs.Leaves.{covers}
use Rattle.rd_list.specs.Entries.{Entries, nil, leaf, ◌▷◌}
use Rattle.rd_list.specs.Lists.{composed}
use Rattle.rd_list.specs.Views.{levels}
use Rattle.rd_list.specs.Wrappers.{Wrapper}
use Rattle.rd_list.proofs.Composing.{composed-join}
use Rattle.rd_list.proofs.Joins.{join_assoc}
use Rattle.rd_paint.specs.Internal.Picks.{Hides}
use Rattle.rd_paint.proofs.Depths.{join_has, levels_by}
use Rattle.rd_paint.proofs.Pieces.{shown_covers, opaque_over}

-- a leaf covers what may be seen of it where its hole is not
pub shown_fills : (l : item.Leaf) (s : Span) (x y : ℤ) → IsWithin l.visible l.shape.outer → is_among l.visible.y l.visible.h y ≡ true → s ≡ record { x0 = l.visible.x; x1 = right l.visible }
    → in_span s x ≡ true → holds_pixel l.shape.inner x y ≡ false → covers l x y ≡ true
shown_fills l s x y w r e i h = sym (shown_covers l s y w r e x) ∙ rw (i, h) refl

pub no_row : (i y : Bool) → y ≡ false → (i && y) ≡ false
no_row true y h = h
no_row false y h = refl

pub no_column : (i y : Bool) → i ≡ false → (i && y) ≡ false
no_column i y h = rw h refl

-- an opaque leaf hides what is below it where it covers
pub leaf_hides : (l : item.Leaf) (x y : ℤ) (d e : Premultiplied) → l.color.a ≡ 255 → covers l x y ≡ true → composed x y d (leaf l nil) ≡ composed x y e (leaf l nil)
leaf_hides l x y d e a c = rw c (opaque_over (premultiplied l.color) d a ∙ sym (opaque_over (premultiplied l.color) e a))

-- the upper part of a list
pub record IsUpper (rest whole : Entries Wrapper item.Leaf) : Type 0 where
  pub below : Entries Wrapper item.Leaf
  pub is : whole ≡ below ▷ rest

pub upper_more : (left one rest whole : Entries Wrapper item.Leaf) → IsUpper left whole → left ≡ one ▷ rest → IsUpper rest whole
upper_more left one rest whole u e = record { below = u.below ▷ one; is = u.is ∙ ap (λ xs. u.below ▷ xs) e ∙ sym (join_assoc u.below one rest) }

pub upper_levels : (rest whole : Entries Wrapper item.Leaf) → IsUpper rest whole → levels rest ≤ levels whole
upper_levels rest whole u =
    let a = (join_has u.below rest).1 in
    let b = levels_by (u.below ▷ rest) whole (sym u.is) in
    omega (arith, a, b)

-- where its lowest entry hides what is below, only that part counts
pub hidden_below : (left one rest whole : Entries Wrapper item.Leaf) (y0 y1 x : ℤ) (n : ℕ) → IsUpper left whole → left ≡ one ▷ rest → Hides one y0 y1 x n
    → (k : ℕ) (y : ℤ) (d e : Premultiplied) → k < n → y0 ≤ℤ y → y <ℤ y1 → composed (x +ℤ pos k) y d left ≡ composed (x +ℤ pos k) y e whole
hidden_below left one rest whole y0 y1 x n u s h k y d e l a b =
    upper d ∙ ap (λ q. composed (x +ℤ pos k) y q rest) (h k y d (composed (x +ℤ pos k) y e u.below) l a b) ∙ sym (upper (composed (x +ℤ pos k) y e u.below))
    ∙ sym (composed-join (x +ℤ pos k) y e u.below left) ∙ ap (composed (x +ℤ pos k) y e) (sym u.is)
  where
    upper : (d : Premultiplied) → composed (x +ℤ pos k) y d left ≡ composed (x +ℤ pos k) y (composed (x +ℤ pos k) y d one) rest
    upper d = ap (composed (x +ℤ pos k) y d) s ∙ composed-join (x +ℤ pos k) y d one rest
