-- How far boxes are scrolled together.
use Rattle.std.proofs.Common.{◌≡◌, refl, ap, ◌∙◌, ℕ, ℤ, pos, ◌+◌, ◌-ℤ◌, ◌≤◌, Bool, true, false, T, int_le, cond, List, ◌∷◌, arith}
use Rattle.std.specs.Prelude.{◌≤ℤ◌, ◌+ℤ◌}
use Rattle.std.specs.Bool.{Decides, passes}
use Rattle.std.specs.Int.Signed.{le_z_yes}
use Rattle.std.proofs.lemmas.Bool.Decides.{Decides-and, Decides-like}
use Rattle.std.proofs.lemmas.Int.{ints}
use Rattle.rd_style.specs.declared.styles.Style.{Style}
use Rattle.rd_style.specs.declared.kinds.Position.{Position}
use Rattle.rd_style.specs.declared.kinds.Position.TheVariants as position
use Rattle.rd_style.specs.Classes.{clips, is_positioned}
use Rattle.rd_tree.specs.declared.scroll.Scroll.{Scroll}
use Rattle.rd_tree.specs.declared.handed.ScrollSums.{ScrollSums}
use Rattle.rd_tree.specs.Figures.{max_scroll}
use Rattle.rd_tree.specs.Document.{Item}
use Rattle.rd_tree.specs.Changes.{unscrolled, with_rect}
use Rattle.rd_tree.specs.Limits.{fits_scroll, FitsScroll}
use Rattle.rd_tree.specs.Drawn.{Above, chain, up, nearest_positioned, total, plus, offset_of}
use Rattle.rd_tree.specs.Internal.Handing.{handed_of, own_of, offset_in, entered, IsFar, IsWithin}
use Rattle.rd_tree.specs.Internal.Redraws.{drawn_far}

at_most_int : (a b : ℤ) → Decides (int_le a b) (a ≤ℤ b)
at_most_int a b = (λ e. le_z_yes (passes _ e), λ h. yes (int_le a b) h.le)
  where
    yes : (x : Bool) → T x → x ≡ true
    yes true h = refl
    yes false h = absurd h

-- A scroll offset within the limits.
scroll_decides : (s : Scroll) → Decides (fits_scroll s) (IsFar 1 s)
unfolding fits_scroll
scroll_decides s =
    Decides-like _
    (λ p. record { left = p.0.0; right = p.0.1; up = p.1.0; down = p.1.1 })
    (λ p. ((p.left, p.right), (p.up, p.down)))
    (Decides-and _ _
    (Decides-and _ _ (at_most_int (pos 0 -ℤ max_scroll) s.x) (at_most_int s.x max_scroll))
    (Decides-and _ _ (at_most_int (pos 0 -ℤ max_scroll) s.y) (at_most_int s.y max_scroll)))

pub scroll_far : (s : Scroll) → FitsScroll s → IsFar 1 s
scroll_far s h = (scroll_decides s).0 h

pub far_none : (n : ℕ) → IsFar n unscrolled
far_none n = record { left = omega (arith, ints); right = omega (arith, ints); up = omega (arith, ints); down = omega (arith, ints) }

pub far_plus : (n : ℕ) (a b : Scroll) → IsFar n a → IsFar 1 b → IsFar (1 + n) (plus a b)
far_plus n a b f g = record {
  left = omega (arith, ints, f.left, g.left);
  right = omega (arith, ints, f.right, g.right);
  up = omega (arith, ints, f.up, g.up);
  down = omega (arith, ints, f.down, g.down);
}

pub far_more : (n : ℕ) (a : Scroll) → IsFar n a → IsFar (1 + n) a
far_more n a f = record {
  left = omega (arith, ints, f.left);
  right = omega (arith, ints, f.right);
  up = omega (arith, ints, f.up);
  down = omega (arith, ints, f.down);
}

pub far_own : (root : Bool) (s : Style) (o : Scroll) → FitsScroll o → IsFar 1 (own_of root s o)
far_own root s o h = by (clips s root)
  where
    by : (b : Bool) → IsFar 1 (cond b o unscrolled)
    by true = scroll_far o h
    by false = far_none 1

pub far_offset : (n : ℕ) (h : ScrollSums) (p : Position) → IsWithin n h → IsFar n (offset_in h p)
far_offset n h position.Fixed w = far_none n
far_offset n h position.Absolute w = w.absolute
far_offset n h position.Relative w = w.flow
far_offset n h position.Static w = w.flow

-- what a box of a position is scrolled, and what is handed on, by the boxes above
pub offset-of : (p : Position) (above : List Above) → offset_in (handed_of above) p ≡ offset_of p above
offset-of position.Fixed above = refl
offset-of position.Absolute above = refl
offset-of position.Relative above = refl
offset-of position.Static above = refl

abbrev hands : Scroll → Scroll → ScrollSums
hands f a = record { flow = f; absolute = a }

abbrev entering : Bool → Style → Scroll → Above
entering root s o = record { position = s.position; scrolled = own_of root s o }

pub entered-of : (root : Bool) (s : Style) (o : Scroll) (above : List Above) → entered root s o (handed_of above) ≡ handed_of (entering root s o ∷ above)
entered-of root s o above =
    ap (λ z. hands (plus z (own_of root s o)) (cond (is_positioned s.position) (plus z (own_of root s o)) (total (chain nearest_positioned above)))) (offset-of s.position above)
    ∙ by (is_positioned s.position)
  where
    by : (b : Bool) → hands (plus (offset_of s.position above) (own_of root s o)) (cond b (plus (offset_of s.position above) (own_of root s o)) (total (chain nearest_positioned above)))
        ≡ hands (plus (offset_of s.position above) (own_of root s o)) (total (cond b (entering root s o ∷ chain (up s.position) above) (chain nearest_positioned above)))
    by true = refl
    by false = refl

pub entered_within : (n : ℕ) (root : Bool) (s : Style) (o : Scroll) (h : ScrollSums) → FitsScroll o → IsWithin n h → IsWithin (1 + n) (entered root s o h)
entered_within n root s o h f w =
    let inside : IsFar (1 + n) (plus (offset_in h s.position) (own_of root s o)) = far_plus n (offset_in h s.position) (own_of root s o) (far_offset n h s.position w) (far_own root s o f) in
    record { flow = inside; absolute = by (is_positioned s.position) inside (far_more n h.absolute w.absolute) }
  where
    by : (b : Bool) → IsFar (1 + n) (plus (offset_in h s.position) (own_of root s o)) → IsFar (1 + n) h.absolute → IsFar (1 + n) (cond b (plus (offset_in h s.position) (own_of root s o)) h.absolute)
    by true p q = p
    by false p q = q

far_up : (n : ℕ) (a : Scroll) → n ≤ 256 → IsFar n a → IsFar 256 a
far_up n a l f = record {
  left = omega (arith, ints, f.left);
  right = omega (arith, ints, f.right);
  up = omega (arith, ints, f.up);
  down = omega (arith, ints, f.down);
}

pub within_more : (n : ℕ) (h : ScrollSums) → n ≤ 256 → IsWithin n h → IsWithin 256 h
within_more n h l w = record { flow = far_up n h.flow l w.flow; absolute = far_up n h.absolute l w.absolute }

pub fits_none : FitsScroll unscrolled
unfolding fits_scroll
fits_none = refl

-- A box that is scrolled as far as before is drawn where it was.
forth_and_back : (x o : ℤ) → (x +ℤ o) -ℤ o ≡ x
forth_and_back x o = omega (arith, ints)

pub far_back : (s : Scroll) (d : Item) → drawn_far s s d ≡ d
far_back s d = λ i. with_rect (record d.rect { x = forth_and_back d.rect.x s.x i; y = forth_and_back d.rect.y s.y i }) d
